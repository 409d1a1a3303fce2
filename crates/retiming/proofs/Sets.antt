-- A set of gates pushed by one amount: closed with that much slack, and no larger than its surplus makes it.
use Rattle.std.proofs.Common.{◌≡◌, ℕ, ◌+◌, ◌*◌, ◌<◌, ◌≤◌, Bool, true, false, cond, not, nat_abs, ◌∙◌, inl, inr, mul_comm, arith}
use Rattle.std.proofs.lemmas.Bool.{cases_Bool, cond-true, cond-false, both_ways, not_from_true, not_from_false}
use Rattle.graph.specs.Sums.{total}
use Rattle.graph.proofs.Totals.{total_same}
use Rattle.netlist.specs.Net.{Net}
use Rattle.netlist.specs.Tally.{Marking}
use Rattle.netlist.specs.Lags.{Lags, Permitted, under, needs}
use Rattle.retiming.specs.declared.way.Way.{Way}
use Rattle.retiming.specs.declared.way.Way.TheVariants.{Forward, Back}
use Rattle.retiming.specs.Witness.{Certificate, gain, cost, bundled}
use Rattle.retiming.specs.Nearest.{Sound}
use Rattle.retiming.specs.Push.{pushed_by, only_on}
use Rattle.retiming.specs.Tied.{Spent, Passes, more_flow, less_flow, other_share, Follows, Tied, seed, step, opposite}
use Rattle.retiming.proofs.Sums.{total_times}
use Rattle.retiming.proofs.Cut.{Seeds, Pushed}
use Rattle.retiming.proofs.Push.{follows_tight, push_pushed}
use Rattle.retiming.proofs.Falls.{won, lost, push_needs, push_falls, push_within}

-- a set of movable gates without a surplus against the way: no move leads out of it within slack k, and each of its gates is tied to one of its gates with a surplus
pub record ReachedSet (way : Way) (n : Net) (mark : Marking) (fixed : ℕ → Bool) (share flow : ℕ → ℕ) (r : Lags) (inside : ℕ → Bool) (k : ℕ) : Type 0 where
  pub some : 0 < k
  pub free : (g : ℕ) → g < n.gates → inside g ≡ true → fixed g ≡ false
  pub willing : (g : ℕ) → g < n.gates → inside g ≡ true → Spent (opposite way) (gain n share flow g) (cost n share flow g)
  pub closed : (x y slack : ℕ) → Follows way (under n r) mark share flow x y slack → inside x ≡ true → inside y ≡ false → k ≤ slack
  pub tied : (g : ℕ) → g < n.gates → inside g ≡ true → Tied way (under n r) mark share flow (λ s. (inside s ≡ true) × Seeds way n share flow s) g

-- the side of a set from which moves lead: forward the set, back its complement
abbrev pub side : Way → (ℕ → Bool) → ℕ → Bool
side Forward inside g = inside g
side Back inside g = not (inside g)

-- what the wires of a side closed with slack k are like: one that enters has a count of at least k, none that leaves has a flow, and a share that drives into it is ahead by k of the wires of its bundle that drive outside
pub record ClosedWires (m : Net) (mark : Marking) (share flow : ℕ → ℕ) (beyond : ℕ → Bool) (k : ℕ) : Type 0 where
  pub counts : (i : ℕ) → i < m.wires → beyond (m.driven i) ≡ true → beyond (m.driver i) ≡ false → k ≤ m.count i
  pub flows : (i : ℕ) → i < m.wires → 0 < flow i → beyond (m.driver i) ≡ true → beyond (m.driven i) ≡ true
  pub shares : (i j : ℕ) → i < m.wires → j < m.wires → share i ≡ 1 → bundled m mark i j ≡ true → beyond (m.driven i) ≡ true → beyond (m.driven j) ≡ false → m.count j + k ≤ m.count i

passes_closed : (m : Net) (mark : Marking) (share flow : ℕ → ℕ) (beyond : ℕ → Bool) (k : ℕ) → ClosedWires m mark share flow beyond k → {x y slack : ℕ} → Passes m mark share flow x y slack → beyond x ≡ true → beyond y ≡ false → k ≤ slack
passes_closed m mark share flow beyond k c (more_flow i h driven driver used) holds out = omega (arith, used, c.counts i h (rw driven holds) (rw driver out))
passes_closed m mark share flow beyond k c (less_flow i h driver driven some) holds out = absurd (both_ways (beyond (m.driven i)) (rw driven out) (c.flows i h some (rw driver holds)))
passes_closed m mark share flow beyond k c (other_share i j hi hj from to picked fellow used) holds out = omega (arith, used, c.shares i j hi hj picked fellow (rw from holds) (rw to out))

pub closed_from : (way : Way) (m : Net) (mark : Marking) (share flow : ℕ → ℕ) (inside : ℕ → Bool) (k : ℕ) → ClosedWires m mark share flow (side way inside) k → (x y slack : ℕ) → Follows way m mark share flow x y slack → inside x ≡ true → inside y ≡ false → k ≤ slack
closed_from Forward m mark share flow inside k c x y slack p holds out = passes_closed m mark share flow inside k c p holds out
closed_from Back m mark share flow inside k c x y slack p holds out = passes_closed m mark share flow (λ g. not (inside g)) k c p (not_from_false (inside y) out) (not_from_true (inside x) holds)

module _ (way : Way) (n : Net) (mark : Marking) (sound : Sound n mark) (fixed : ℕ → Bool) (present : Lags) (share flow : ℕ → ℕ) (r : Lags) (hr : Permitted n fixed present r) (cert : Certificate (under n r) mark share flow)
    (inside : ℕ → Bool) (k : ℕ) (reached : ReachedSet way n mark fixed share flow r inside k) where
  member : (g : ℕ) → 0 < only_on inside k g → inside g ≡ true
  member g h = elim (cases_Bool (inside g)) [ inl holds ↦ holds | inr out ↦ absurd (omega (arith, cond-false (inside g) k 0 out)) ]

  within_slack : (x y slack : ℕ) → Follows way (under n r) mark share flow x y slack → only_on inside k x ≤ slack + only_on inside k y
  within_slack x y slack f = elim (cases_Bool (inside x)) [
    | inl holds ↦ elim (cases_Bool (inside y)) [
      | inl also ↦ omega (arith, cond-true (inside x) k 0 holds, cond-true (inside y) k 0 also)
      | inr out ↦ omega (arith, cond-true (inside x) k 0 holds, reached.closed x y slack f holds out)
    ]
    | inr out ↦ omega (arith, cond-false (inside x) k 0 out)
  ]

  free_amounts : (g : ℕ) → g < n.gates → 0 < only_on inside k g → fixed g ≡ false
  free_amounts g h a = reached.free g h (member g a)

  -- a move without slack inside the set stays one
  tied_after : {g : ℕ} → Tied way (under n r) mark share flow (λ s. (inside s ≡ true) × Seeds way n share flow s) g → (inside g ≡ true) × Tied way (under n (pushed_by way (only_on inside k) r)) mark share flow (Seeds way n share flow) g
  tied_after (seed s) = (s.0, seed s.1)
  tied_after (step {x} {y} t f) =
      let from = tied_after t in
      let to : inside y ≡ true = elim (cases_Bool (inside y)) [ inl holds ↦ holds | inr out ↦ absurd (omega (arith, reached.closed x y 0 f from.0 out, reached.some)) ] in
      (to, step from.1 (follows_tight way n mark sound fixed present share flow r hr cert (only_on inside k) free_amounts within_slack x y 0 f (omega (arith, cond-true (inside x) k 0 from.0, cond-true (inside y) k 0 to))))

  pub set_pushed : Pushed way n mark fixed present share flow r (pushed_by way (only_on inside k) r)
  set_pushed = push_pushed way n mark sound fixed present share flow r hr cert (only_on inside k) free_amounts within_slack (λ g h a. (reached.willing g h (member g a), (tied_after (reached.tied g h (member g a))).1))

  -- k times what a push by 1 wins or loses over the set
  sum_over : (f : ℕ → ℕ) → total (λ g. only_on inside k g * f g) n.gates ≡ total (λ g. cond (inside g) (f g) 0) n.gates * k
  sum_over f = total_same _ (λ g. cond (inside g) (f g) 0 * k) n.gates (λ g _. elim (cases_Bool (inside g)) [
    | inl holds ↦ rw holds (mul_comm k (f g))
    | inr out ↦ rw out (omega arith)
  ]) ∙ total_times (λ g. cond (inside g) (f g) 0) k n.gates

  pub set_needs : needs n mark (pushed_by way (only_on inside k) r) + total (λ g. cond (inside g) (won way (gain n share flow g) (cost n share flow g)) 0) n.gates * k ≡ needs n mark r + total (λ g. cond (inside g) (lost way (gain n share flow g) (cost n share flow g)) 0) n.gates * k
  set_needs = omega (arith, push_needs way n mark sound fixed present share flow r hr cert (only_on inside k) free_amounts within_slack, sum_over (λ g. won way (gain n share flow g) (cost n share flow g)), sum_over (λ g. lost way (gain n share flow g) (cost n share flow g)))

  module _ (s : ℕ) (here : inside s ≡ true) (start : Seeds way n share flow s) where
    willing_amounts : (g : ℕ) → g < n.gates → 0 < only_on inside k g → Spent (opposite way) (gain n share flow g) (cost n share flow g)
    willing_amounts g h a = reached.willing g h (member g a)

    -- strictly fewer are needed, by at least as many as the lags move
    pub set_falls : needs n mark (pushed_by way (only_on inside k) r) + k ≤ needs n mark r
    set_falls = omega (arith, push_falls way n mark sound fixed present share flow r hr cert (only_on inside k) free_amounts within_slack willing_amounts s start, cond-true (inside s) k 0 here)

    pub set_within : (bound : ℕ) → ((g : ℕ) → g < n.gates → nat_abs (r g) + needs n mark r ≤ bound) → (g : ℕ) → g < n.gates → nat_abs (pushed_by way (only_on inside k) r g) + needs n mark (pushed_by way (only_on inside k) r) ≤ bound
    set_within = push_within way n mark sound fixed present share flow r hr cert (only_on inside k) free_amounts within_slack willing_amounts s start (λ g _. elim (cases_Bool (inside g)) [
      | inl holds ↦ omega (arith, cond-true (inside g) k 0 holds, cond-true (inside s) k 0 here)
      | inr out ↦ omega (arith, cond-false (inside g) k 0 out)
    ])
