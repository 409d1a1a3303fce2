-- How far a push within the slack of a certificate lowers what is needed.
use Rattle.std.proofs.Common.{◌≡◌, ℕ, ◌+◌, ◌*◌, ◌<◌, ◌≤◌, Bool, false, ℤ, nat_abs, inl, inr, mul-le-mul_left, mul-suc, arith}
use borrow.Author.Differences.{ints}
use Rattle.std.proofs.lemmas.Bool.{cases_eq}
use Rattle.graph.specs.Sums.{total}
use Rattle.graph.proofs.Totals.{total_same}
use Rattle.netlist.specs.Net.{Net}
use Rattle.netlist.specs.Tally.{Marking}
use Rattle.netlist.specs.Lags.{Lags, Permitted, under, needs}
use Rattle.retiming.specs.declared.way.Way.{Way}
use Rattle.retiming.specs.declared.way.Way.TheVariants.{Forward, Back}
use Rattle.retiming.specs.Witness.{Certificate, gain, cost}
use Rattle.retiming.specs.Nearest.{Sound}
use Rattle.retiming.specs.Push.{push, pushed_by}
use Rattle.retiming.specs.Tied.{Excess, Spent, Follows, opposite}
use Rattle.retiming.proofs.Sums.{total_gap}
use Rattle.retiming.proofs.Cut.{Seeds}
use Rattle.retiming.proofs.Duality.{needs_shared, flow_dry}
use Rattle.retiming.proofs.Identity.{priced, identity}
use Rattle.retiming.proofs.Push.{before, after, push_shifted, push_certificate}

-- what a push by 1 wins and loses at a gate
abbrev pub won : Way → ℕ → ℕ → ℕ
won Forward gain cost = gain
won Back gain cost = cost

abbrev pub lost : Way → ℕ → ℕ → ℕ
lost Forward gain cost = cost
lost Back gain cost = gain

priced_after : (way : Way) (amount : ℕ → ℕ) (v g c : ℕ) → after way amount v * c + before way amount v * g ≡ amount v * won way g c
priced_after Forward amount v g c = omega arith
priced_after Back amount v g c = omega arith

priced_before : (way : Way) (amount : ℕ → ℕ) (v g c : ℕ) → before way amount v * c + after way amount v * g ≡ amount v * lost way g c
priced_before Forward amount v g c = omega arith
priced_before Back amount v g c = omega arith

pub spent_wins : (way : Way) (g c : ℕ) → Spent (opposite way) g c → lost way g c ≤ won way g c
spent_wins Forward g c h = h
spent_wins Back g c h = h

pub excess_wins : (way : Way) (g c : ℕ) → Excess way g c → lost way g c < won way g c
excess_wins Forward g c h = h
excess_wins Back g c h = h

module _ (way : Way) (n : Net) (mark : Marking) (sound : Sound n mark) (fixed : ℕ → Bool) (present : Lags) (share flow : ℕ → ℕ) (r : Lags) (hr : Permitted n fixed present r) (cert : Certificate (under n r) mark share flow) (amount : ℕ → ℕ)
    (free : (g : ℕ) → g < n.gates → 0 < amount g → fixed g ≡ false)
    (closed : (x y slack : ℕ) → Follows way (under n r) mark share flow x y slack → amount x ≤ slack + amount y) where
  pub push_needs : needs n mark (pushed_by way amount r) + total (λ g. amount g * won way (gain n share flow g) (cost n share flow g)) n.gates ≡ needs n mark r + total (λ g. amount g * lost way (gain n share flow g) (cost n share flow g)) n.gates
  push_needs =
      let cert' = push_certificate way n mark sound fixed present share flow r hr cert amount free closed in
      let law = identity n sound.drivers sound.drivens share flow (under n r).count (before way amount) (under n (pushed_by way amount r)).count (after way amount) (push_shifted way n mark sound fixed present share flow r hr cert amount free closed) (flow_dry n mark sound r share flow cert) in
      omega (
        arith,
        law,
        needs_shared n mark sound r share flow cert,
        needs_shared n mark sound (pushed_by way amount r) share flow cert',
        flow_dry n mark sound (pushed_by way amount r) share flow cert',
        total_same (priced n share flow (after way amount) (before way amount)) (λ g. amount g * won way (gain n share flow g) (cost n share flow g)) n.gates (λ v _. priced_after way amount v (gain n share flow v) (cost n share flow v)),
        total_same (priced n share flow (before way amount) (after way amount)) (λ g. amount g * lost way (gain n share flow g) (cost n share flow g)) n.gates (λ v _. priced_before way amount v (gain n share flow v) (cost n share flow v)),
      )

  module _ (willing : (g : ℕ) → g < n.gates → 0 < amount g → Spent (opposite way) (gain n share flow g) (cost n share flow g)) (s : ℕ) (start : Seeds way n share flow s) where
    -- a gate with a surplus wins at least its amount
    pub push_falls : needs n mark (pushed_by way amount r) + amount s ≤ needs n mark r
    push_falls = omega (
      arith,
      push_needs,
      total_gap (λ g. amount g * lost way (gain n share flow g) (cost n share flow g)) (λ g. amount g * won way (gain n share flow g) (cost n share flow g)) n.gates s (amount s) wins start.0
          (omega (arith, mul-suc (amount s) (lost way (gain n share flow s) (cost n share flow s)), mul-le-mul_left (amount s) (excess_wins way (gain n share flow s) (cost n share flow s) start.1))),
    )
      where
        wins : (g : ℕ) → g < n.gates → amount g * lost way (gain n share flow g) (cost n share flow g) ≤ amount g * won way (gain n share flow g) (cost n share flow g)
        wins g h = elim (cases_eq (amount g) 0) [ inl none ↦ rw none (omega arith) | inr some ↦ mul-le-mul_left (amount g) (spent_wins way (gain n share flow g) (cost n share flow g) (willing g h (omega arith))) ]

    -- lags move no farther than what is needed falls
    pub push_within : ((g : ℕ) → g < n.gates → amount g ≤ amount s) → (bound : ℕ) → ((g : ℕ) → g < n.gates → nat_abs (r g) + needs n mark r ≤ bound) → (g : ℕ) → g < n.gates → nat_abs (pushed_by way amount r g) + needs n mark (pushed_by way amount r) ≤ bound
    push_within top bound within g h = omega (arith, push_falls, top g h, within g h, push_size way (amount g) (r g))
      where
        push_size : (w : Way) (k : ℕ) (x : ℤ) → nat_abs (push w k x) ≤ nat_abs x + k
        push_size Forward k x = omega (arith, ints)
        push_size Back k x = omega (arith, ints)
