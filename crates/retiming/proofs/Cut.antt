-- Lags that need no more than those of a certificate: they lose nothing on the way, so where surplus can move they follow it.
use Rattle.std.proofs.Common.{◌≡◌, ℕ, ◌+◌, ◌*◌, ◌<◌, ◌≤◌, Bool, true, eqb, ◌⊎◌, ℤ, sym, ap, inl, inr, mul_comm, le-mul_of_pos_right, arith}
use borrow.Author.Differences.{up, down, le_out, at_most_in, same_in}
use Rattle.std.proofs.lemmas.Bool.{cases_eq, and_parts, eqb-true}
use Rattle.netlist.specs.Net.{Net}
use Rattle.netlist.specs.Tally.{Marking}
use Rattle.netlist.specs.Lags.{Lags, Permitted, under, needs}
use Rattle.netlist.proofs.Tallies.{mark_of}
use Rattle.retiming.specs.declared.way.Way.{Way}
use Rattle.retiming.specs.declared.way.Way.TheVariants.{Forward, Back}
use Rattle.retiming.specs.Witness.{Certificate, gain, cost, bundled}
use Rattle.retiming.specs.Nearest.{Sound, Along, Moved}
use Rattle.retiming.specs.Tied.{Excess, Spent, Passes, more_flow, less_flow, other_share, Tied, seed, step, opposite}
use Rattle.retiming.proofs.Sums.{total_part}
use Rattle.retiming.proofs.Bundles.{shared, shared_deepest}
use Rattle.retiming.proofs.Cross.{cross_same}
use Rattle.retiming.proofs.Duality.{Uphill, needs_shared, needs_at_least, flow_dry, priced_le, needs_grow}
use Rattle.retiming.proofs.Heights.{height, shifted}
use Rattle.retiming.proofs.Identity.{shared_grows, gates_even, flow_stays_dry}
use Rattle.retiming.proofs.Needs.{mark_bound, below_bound, needs_is}
use Rattle.retiming.proofs.Orders.{along_self, along_both, along_opposite}

-- gate g has a surplus that the way moves
abbrev pub Seeds : Way → Net → (ℕ → ℕ) → (ℕ → ℕ) → ℕ → Type 0
Seeds way n share flow g = (g < n.gates) × Excess way (gain n share flow g) (cost n share flow g)

-- lag x for lag y, where neither gains: with a surplus there is no move
no_climb : (way : Way) (x y : ℤ) (g c : ℕ) → Along way y x → Excess way g c → (up x + down y) * c + (up y + down x) * g ≡ (up y + down x) * c + (up x + down y) * g → x ≡ y
no_climb Forward x y g c along excess even = same_in x y (cross_same (up y + down x) (up x + down y) c g (le_out y x along) excess (omega arith))
no_climb Back x y g c along excess even = same_in x y (sym (cross_same (up x + down y) (up y + down x) g c (le_out x y along) excess (omega arith)))

module _ (n : Net) (mark : Marking) (sound : Sound n mark) (r : Lags) (share flow : ℕ → ℕ) (cert : Certificate (under n r) mark share flow) (fixed : ℕ → Bool) (present q : Lags)
    (hr : Permitted n fixed present r) (hq : Permitted n fixed present q) (uphill : (g : ℕ) → g < n.gates → Uphill n share flow q r g) (same : needs n mark q ≤ needs n mark r) where
  even : shared n share (under n q).count ≤ shared n share (under n r).count
  even = omega (arith, needs_shared n mark sound r share flow cert, needs_at_least n mark sound r share flow cert q)

  still_deepest : (k j : ℕ) → k < n.wires → j < n.wires → share k ≡ 1 → bundled n mark k j ≡ true → (under n q).count j ≤ (under n q).count k
  still_deepest = shared_deepest mark_bound n mark share sound.drivers (λ k h. below_bound _ (sound.marks k h)) cert.bits cert.single (under n q).count
      (omega (
        arith,
        needs_is n mark q,
        needs_shared n mark sound r share flow cert,
        shared_grows n sound.drivers sound.drivens share flow (under n r).count (height r q) (under n q).count (height q r) (shifted n fixed present r q hr hq) (flow_dry n mark sound r share flow cert) (priced_le n mark sound r share flow cert fixed present q hr hq uphill),
      ))

  still_dry : (k : ℕ) → k < n.wires → 0 < flow k → (under n q).count k ≡ 0
  still_dry k h some =
      let none = flow_stays_dry n sound.drivers sound.drivens share flow (under n r).count (height r q) (under n q).count (height q r) (shifted n fixed present r q hr hq) (flow_dry n mark sound r share flow cert) (priced_le n mark sound r share flow cert fixed present q hr hq uphill) even in
      omega (arith, none, total_part (λ j. flow j * (under n q).count j) n.wires k h, le-mul_of_pos_right ((under n q).count k) some, mul_comm (flow k) ((under n q).count k))

  flow_empty : (k : ℕ) → k < n.wires → 0 < flow k → (under n r).count k ≡ 0
  flow_empty k h some = elim (cases_eq ((under n r).count k) 0) [ inl none ↦ none | inr full ↦ absurd (omega (arith, cert.dry k h (omega arith))) ]

  seed_still : (way : Way) (g : ℕ) → Seeds way n share flow g → Along way (r g) (q g) → q g ≡ r g
  seed_still way g s along = no_climb way (q g) (r g) (gain n share flow g) (cost n share flow g) along s.1
      (gates_even n sound.drivers sound.drivens share flow (under n r).count (height r q) (under n q).count (height q r) (shifted n fixed present r q hr hq) (flow_dry n mark sound r share flow cert) (priced_le n mark sound r share flow cert fixed present q hr hq uphill) even g s.0)

  -- where a unit of surplus can move from x to y, y rises no more than x and the slack
  passes_falls : {x y slack : ℕ} → Passes (under n r) mark share flow x y slack → height q r y + height r q x ≤ height q r x + height r q y + slack
  passes_falls (more_flow k h driven driver used) =
      rw (← driven, ← driver) (omega (arith, shifted n fixed present r q hr hq k h, used))
  passes_falls (less_flow k h driver driven some) =
      rw (← driven, ← driver) (omega (arith, shifted n fixed present r q hr hq k h, flow_empty k h some, still_dry k h some))
  passes_falls (other_share k j hk hj from to picked fellow used) =
      let beside = eqb-true (n.driver j) (n.driver k) (and_parts _ (eqb (mark_of n mark j) (mark_of n mark k)) fellow).0 in
      rw (← from, ← to) (omega (arith, shifted n fixed present r q hr hq k hk, shifted n fixed present r q hr hq j hj, used, still_deepest k j hk hj picked fellow, ap (height q r) beside, ap (height r q) beside))

  tied_stays : (way : Way) → ((g : ℕ) → g < n.gates → Along way (r g) (q g)) → {g : ℕ} → Tied way (under n r) mark share flow (Seeds way n share flow) g → Along way (q g) (r g)
  tied_stays way behind {g} (seed s) = rw (seed_still way g s (behind g s.0)) (along_self way (r g))
  tied_stays Forward behind (step {x} {y} t o) = at_most_in (q y) (r y) (omega (arith, passes_falls o, le_out (q x) (r x) (tied_stays Forward behind t)))
  tied_stays Back behind (step {x} {y} t o) = at_most_in (r y) (q y) (omega (arith, passes_falls o, le_out (r x) (q x) (tied_stays Back behind t)))

-- lags r' farther along the way than r, under one certificate: the gates that moved have no surplus against the way, and are tied to some with a surplus that the way moves
pub record Pushed (way : Way) (n : Net) (mark : Marking) (fixed : ℕ → Bool) (present : Lags) (share flow : ℕ → ℕ) (r r' : Lags) : Type 0 where
  pub permitted : Permitted n fixed present r'
  pub certificate : Certificate (under n r') mark share flow
  pub moved : Moved way n r' r
  pub tied : (g : ℕ) → g < n.gates → (r' g ≡ r g) ⊎ (Spent (opposite way) (gain n share flow g) (cost n share flow g) × Tied way (under n r') mark share flow (Seeds way n share flow) g)

module _ (way : Way) (n : Net) (mark : Marking) (sound : Sound n mark) (fixed : ℕ → Bool) (present : Lags) (share flow : ℕ → ℕ) (r r' : Lags) (pushed : Pushed way n mark fixed present share flow r r')
    (z : Lags) (hz : Permitted n fixed present z) (behind : Moved way n r' z) (ahead : Moved way n z r) where
  between : (g : ℕ) → g < n.gates → r' g ≡ r g → z g ≡ r' g
  between g h still = along_both way (z g) (r' g) (rw still (ahead g h)) (behind g h)

  uphill : (g : ℕ) → g < n.gates → Uphill n share flow z r' g
  uphill g h = elim (pushed.tied g h) [ inl still ↦ inl (between g h still) | inr went ↦ inr (opposite way, along_opposite way (r' g) (z g) (behind g h), went.0) ]

  -- of the permitted lags between, those pushed farthest need the fewest, and no others do
  pub pushed_fewest : needs n mark r' ≤ needs n mark z
  pushed_fewest = needs_grow n mark sound r' share flow pushed.certificate fixed present z pushed.permitted hz uphill

  pub pushed_only : needs n mark z ≤ needs n mark r' → (g : ℕ) → g < n.gates → z g ≡ r' g
  pushed_only same g h = elim (pushed.tied g h) [
    | inl still ↦ between g h still
    | inr went ↦ along_both way (z g) (r' g) (tied_stays n mark sound r' share flow pushed.certificate fixed present z pushed.permitted hz uphill same way behind went.1) (behind g h)
  ]
