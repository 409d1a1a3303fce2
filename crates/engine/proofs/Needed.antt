-- The counts of the wires that hold a share add up to what the lags need.
use Rattle.std.proofs.Common.{◌≡◌, ℕ, ◌+◌, ◌*◌, ◌<◌, ◌≤◌, List, length, get_or, ℤ, sym, ap, ◌∙◌, add-one, arith}
use Rattle.std.proofs.lemmas.Bool.{eq-eqb, ne_eqb}
use Rattle.graph.specs.Sums.{total}
use Rattle.graph.proofs.Totals.{total_same}
use Rattle.netlist.specs.Lags.{under, needs}
use Rattle.retiming.proofs.Duality.{needs_shared}
use Rattle.retiming.proofs.Sums.{total_part}
use Rattle.engine.specs.declared.link.Link.{Link}
use Rattle.engine.specs.Rows.{Depths, holder, shares, flows, Holding}
use Rattle.engine.specs.Table.{table, bundles, lags_of, Tabled}
use Rattle.engine.proofs.Certified.{table_sound, depth_is, holding_certificate}
use Rattle.engine.proofs.Holders.{holder_shares}

-- the counts of the wires below k that hold a share, added
abbrev pub held_sum : List Link → List ℕ → List ℕ → ℕ → ℕ
held_sum links depths holders k = total (λ j. shares links holders j * get_or depths j 0) k

module _ (links : List Link) (depths holders : List ℕ) (k sum : ℕ) (old : (sum ≡ held_sum links depths holders k) × (sum ≤ 4294967295 * k)) where
  pub held_more : get_or depths k 0 ≤ 4294967295 → holder links holders k ≡ k → (sum + get_or depths k 0 ≡ held_sum links depths holders (k + 1)) × (sum + get_or depths k 0 ≤ 4294967295 * (k + 1))
  held_more small here = (rw (add-one k, eq-eqb _ _ here) (omega (arith, old.0)), omega (arith, old.1))

  pub held_less : (holder links holders k ≡ k → ⊥) → (sum ≡ held_sum links depths holders (k + 1)) × (sum ≤ 4294967295 * (k + 1))
  held_less other = (rw (add-one k, ne_eqb _ _ other) (omega (arith, old.0)), omega (arith, old.1))

pub held_needs : (gates : ℕ) (links : List Link) (lags : List ℤ) (depths holders row : List ℕ) → Tabled gates links → Depths gates links lags depths → Holding links depths holders row → held_sum links depths holders (length links) ≡ needs (table gates links) (bundles links) (lags_of lags)
held_needs gates links lags depths holders row tabled deeps holding =
    total_same _ _ (length links) (λ k h. ap (λ c. shares links holders k * c) (sym (depth_is deeps k h)))
    ∙ sym (needs_shared (table gates links) (bundles links) (table_sound gates links tabled) (lags_of lags) (shares links holders) (flows row) (holding_certificate gates links lags depths holders row tabled deeps holding))

-- no count is over the registers needed
pub depth_le_needs : (gates : ℕ) (links : List Link) (lags : List ℤ) (depths holders row : List ℕ) → Tabled gates links → Depths gates links lags depths → Holding links depths holders row → (k : ℕ) → k < length links → (under (table gates links) (lags_of lags)).count k ≤ needs (table gates links) (bundles links) (lags_of lags)
depth_le_needs gates links lags depths holders row tabled deeps holding k h =
    let i = holder links holders k in
    let part = total_part (λ j. shares links holders j * get_or depths j 0) (length links) i (holding.is_wire k h) in
    let one : shares links holders i * get_or depths i 0 ≡ get_or depths i 0 = ap (λ x. x * get_or depths i 0) (holder_shares links depths holders row holding k h) ∙ omega arith in
    omega (arith, depth_is deeps k h, holding.deepest k h, part, one, held_needs gates links lags depths holders row tabled deeps holding)
