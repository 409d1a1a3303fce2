-- Numbers put into a row of bytes, one after another.
use Rattle.std.proofs.Common.{◌≡◌, ℕ, ◌+◌, ◌*◌, ◌<◌, List, sym, ap, ◌∙◌, inl, inr, arith, below_more}
use Rattle.std.proofs.lemmas.Bool.{cases_order}
use Rattle.drawing.specs.File.{word}
use Rattle.netlist.specs.Net.{Net}
use Rattle.wiring.specs.declared.wire.Wire.{Wire}
use Rattle.wiring.specs.Held.{wire_of}
use Rattle.output.specs.Numbers.{Puts, HoldsWire, PutsWires}

-- a number that is not the one put is as it was
pub number_kept : {a b : List ℕ} {j v : ℕ} → Puts a b j v → (i : ℕ) → (i ≡ j → ⊥) → word b (2 * i) ≡ word a (2 * i)
number_kept {j = j} put i other = elim (cases_order i j) [
  | inl e ↦ absurd (other e)
  | inr (inl l) ↦ omega (arith, put.below (2 * i) (omega arith), put.below (2 * i + 1) (omega arith))
  | inr (inr l) ↦ omega (arith, put.above (2 * i) (omega arith), put.above (2 * i + 1) (omega arith))
]

-- one wire more, as the netlist tells it
module _ (n : Net) (k wires : ℕ) (w : Wire) (is_wire : k < n.wires) (all : wires ≡ n.wires) (told : w ≡ wire_of n k) {first a b c d : List ℕ} (so_far : PutsWires n k first a) where
  module _ (driver : Puts a b (3 + 2 * k) w.driver) (driven : Puts b c (4 + 2 * k) w.driven) (count : Puts c d (3 + 2 * wires + k) w.count) where
    -- a number that is none of the three is as it was
    apart : (i j : ℕ) → i ≡ 2 * j → (j ≡ 3 + 2 * k → ⊥) → (j ≡ 4 + 2 * k → ⊥) → (j ≡ 3 + 2 * wires + k → ⊥) → word d i ≡ word a i
    apart i j e p q r = ap (word d) e ∙ number_kept count j r ∙ number_kept driven j q ∙ number_kept driver j p ∙ ap (word a) (sym e)

    earlier : (j : ℕ) → j < k → HoldsWire n d j
    earlier j l = let old = so_far.held j l in record {
      driver = apart (6 + 4 * j) (3 + 2 * j) (omega arith) (λ e. omega arith) (λ e. omega arith) (λ e. omega arith) ∙ old.driver;
      driven = apart (8 + 4 * j) (4 + 2 * j) (omega arith) (λ e. omega arith) (λ e. omega arith) (λ e. omega arith) ∙ old.driven;
      count = apart (6 + 4 * n.wires + 2 * j) (3 + 2 * n.wires + j) (omega arith) (λ e. omega arith) (λ e. omega arith) (λ e. omega arith) ∙ old.count;
    }

    here : HoldsWire n d k
    here = record {
      driver = ap (word d) (omega arith) ∙ number_kept count (3 + 2 * k) (λ e. omega arith) ∙ number_kept driven (3 + 2 * k) (λ e. omega arith) ∙ driver.here ∙ ap (λ x. x.driver) told;
      driven = ap (word d) (omega arith) ∙ number_kept count (4 + 2 * k) (λ e. omega arith) ∙ driven.here ∙ ap (λ x. x.driven) told;
      count = ap (word d) (omega arith) ∙ count.here ∙ ap (λ x. x.count) told;
    }

    pub wire_put : PutsWires n (k + 1) first d
    wire_put = record {
      sizes = λ i l. count.below i (omega arith) ∙ driven.below i (omega arith) ∙ driver.below i (omega arith) ∙ so_far.sizes i l;
      held = below_more (HoldsWire n d) k earlier here;
      kept = λ i l. count.above i (omega arith) ∙ driven.above i (omega arith) ∙ driver.above i (omega arith) ∙ so_far.kept i l;
    }
