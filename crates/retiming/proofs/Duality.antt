-- Weak duality: a certificate bounds what permitted lags need from below.
use Rattle.std.proofs.Common.{◌≡◌, ℕ, ◌+◌, ◌*◌, ◌<◌, ◌≤◌, Bool, false, ◌⊎◌, ℤ, sym, ◌∙◌, inl, inr, arith}
use borrow.Author.Differences.{up, down, le_out, at_most_in}
use Rattle.std.proofs.lemmas.Bool.{cases_Bool, cases_eq, cases_lt}
use Rattle.graph.proofs.Totals.{total_zero}
use Rattle.netlist.specs.Net.{Net}
use Rattle.netlist.specs.Tally.{Marking}
use Rattle.netlist.specs.Lags.{Lags, Permitted, under, needs}
use Rattle.retiming.specs.declared.way.Way.{Way}
use Rattle.retiming.specs.declared.way.Way.TheVariants.{Forward, Back}
use Rattle.retiming.specs.Witness.{Certificate, Witness, gain, cost}
use Rattle.retiming.specs.Nearest.{Sound, Along, Moved}
use Rattle.retiming.specs.Tied.{Spent}
use Rattle.retiming.proofs.Bundles.{shared, shared_le, shared_is}
use Rattle.retiming.proofs.Cross.{cross_le}
use Rattle.retiming.proofs.Heights.{height, shifted}
use Rattle.retiming.proofs.Identity.{priced, shared_grows}
use Rattle.retiming.proofs.Needs.{mark_bound, below_bound, needs_is}

-- from r to q, gate g stays or moves a way for which it has no surplus
abbrev pub Uphill : Net → (ℕ → ℕ) → (ℕ → ℕ) → Lags → Lags → ℕ → Type 0
Uphill n share flow q r g = (q g ≡ r g) ⊎ ((way : Way) × Along way (q g) (r g) × Spent way (gain n share flow g) (cost n share flow g))

-- lag x for lag y, with gain g and cost c
climb : (way : Way) (x y : ℤ) (g c : ℕ) → Along way x y → Spent way g c → (up x + down y) * c + (up y + down x) * g ≤ (up y + down x) * c + (up x + down y) * g
climb Forward x y g c along spent = cross_le (up x + down y) (up y + down x) g c (le_out x y along) spent
climb Back x y g c along spent = omega (arith, cross_le (up y + down x) (up x + down y) c g (le_out y x along) spent)

module _ (n : Net) (mark : Marking) (sound : Sound n mark) (r : Lags) (share flow : ℕ → ℕ) (cert : Certificate (under n r) mark share flow) where
  pub needs_shared : needs n mark r ≡ shared n share (under n r).count
  needs_shared = needs_is n mark r ∙ sym (shared_is mark_bound n mark share sound.drivers (λ k h. below_bound _ (sound.marks k h)) cert.bits cert.single (under n r).count cert.deepest)

  pub needs_at_least : (q : Lags) → shared n share (under n q).count ≤ needs n mark q
  needs_at_least q = rw (needs_is n mark q) (shared_le mark_bound n mark share sound.drivers (λ k h. below_bound _ (sound.marks k h)) cert.bits cert.single (under n q).count)

  pub flow_dry : shared n flow (under n r).count ≡ 0
  flow_dry = total_zero (λ k. flow k * (under n r).count k) n.wires (λ k h. elim (cases_eq ((under n r).count k) 0) [ inl none ↦ rw none (omega arith) | inr some ↦ rw (cert.dry k h (omega arith)) (omega arith) ])

  module _ (fixed : ℕ → Bool) (present q : Lags) (hr : Permitted n fixed present r) (hq : Permitted n fixed present q) (uphill : (g : ℕ) → g < n.gates → Uphill n share flow q r g) where
    pub priced_le : (g : ℕ) → g < n.gates → priced n share flow (height q r) (height r q) g ≤ priced n share flow (height r q) (height q r) g
    priced_le g h = elim (uphill g h) [ inl still ↦ rw still (omega arith) | inr goes ↦ climb goes.0 (q g) (r g) (gain n share flow g) (cost n share flow g) goes.1 goes.2 ]

    pub needs_grow : needs n mark r ≤ needs n mark q
    needs_grow = omega (arith, needs_shared, needs_at_least q, shared_grows n sound.drivers sound.drivens share flow (under n r).count (height r q) (under n q).count (height q r) (shifted n fixed present r q hr hq) flow_dry priced_le)

module _ (way : Way) (n : Net) (mark : Marking) (fixed : ℕ → Bool) (present r : Lags) (share flow : ℕ → ℕ) (sound : Sound n mark) (hr : Permitted n fixed present r) (cert : Certificate (under n r) mark share flow) where
  -- without a surplus that the way moves, no permitted lags farther along it need fewer
  pub fewest_along : ((g : ℕ) → g < n.gates → fixed g ≡ false → Spent way (gain n share flow g) (cost n share flow g)) → (q : Lags) → Permitted n fixed present q → Moved way n q r → needs n mark r ≤ needs n mark q
  fewest_along spent q hq moved = needs_grow n mark sound r share flow cert fixed present q hr hq (λ g h. elim (cases_Bool (fixed g)) [
    | inl stuck ↦ inl (hq.stays g h stuck ∙ sym (hr.stays g h stuck))
    | inr free ↦ inr (way, moved g h, spent g h free)
  ])

some_way : (x y : ℤ) → (way : Way) × Along way x y
some_way x y = elim (cases_lt (up y + down x) (up x + down y)) [ inl above ↦ (Back, at_most_in y x (omega arith)) | inr below ↦ (Forward, at_most_in x y (omega arith)) ]

even_spent : (way : Way) (g c : ℕ) → g ≡ c → Spent way g c
even_spent Forward g c e = omega arith
even_spent Back g c e = omega arith

-- with a witness no permitted lags need fewer
pub fewest : (n : Net) (mark : Marking) (fixed : ℕ → Bool) (present r : Lags) (share flow : ℕ → ℕ) → Sound n mark → Permitted n fixed present r → Witness (under n r) mark fixed share flow → (q : Lags) → Permitted n fixed present q → needs n mark r ≤ needs n mark q
fewest n mark fixed present r share flow sound hr witness q hq = needs_grow n mark sound r share flow witness.certificate fixed present q hr hq (λ g h. elim (cases_Bool (fixed g)) [
  | inl stuck ↦ inl (hq.stays g h stuck ∙ sym (hr.stays g h stuck))
  | inr free ↦ let there = some_way (q g) (r g) in inr (there.0, there.1, even_spent there.0 _ _ (witness.balanced g h free))
])
