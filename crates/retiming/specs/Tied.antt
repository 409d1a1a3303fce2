-- The surplus that each way moves, where a unit of it can move under a certificate, and the gates tied to others by such moves.
use Rattle.std.specs.Prelude.{◌≡◌, ℕ, ◌+◌, ◌<◌, ◌≤◌, true}
use Rattle.netlist.specs.Net.{Net}
use Rattle.netlist.specs.Tally.{Marking}
use Rattle.retiming.specs.declared.way.Way.{Way}
use Rattle.retiming.specs.declared.way.Way.TheVariants.{Forward, Back}
use Rattle.retiming.specs.Witness.{bundled}

abbrev pub opposite : Way → Way
opposite Forward = Back
opposite Back = Forward

-- a gain and a cost leave a surplus that the way moves: forward one above 0, back one below
abbrev pub Excess : Way → ℕ → ℕ → Type 0
Excess Forward gain cost = cost < gain
Excess Back gain cost = gain < cost

-- they leave none
abbrev pub Spent : Way → ℕ → ℕ → Type 0
Spent Forward gain cost = gain ≤ cost
Spent Back gain cost = cost ≤ gain

-- a unit of surplus can move from gate x to gate y once the slack between them is used up:
-- by more flow on a wire, when its count is used up; by less flow on a wire that has some; with a bundle's share, when the count of another wire of the bundle is as great
pub data Passes (m : Net) (mark : Marking) (share flow : ℕ → ℕ) : ℕ → ℕ → ℕ → Type 0 where
  more_flow : {x y slack : ℕ} (k : ℕ) → k < m.wires → m.driven k ≡ x → m.driver k ≡ y → m.count k ≡ slack → Passes m mark share flow x y slack
  less_flow : {x y : ℕ} (k : ℕ) → k < m.wires → m.driver k ≡ x → m.driven k ≡ y → 0 < flow k → Passes m mark share flow x y 0
  other_share : {x y slack : ℕ} (k j : ℕ) → k < m.wires → j < m.wires → m.driven k ≡ x → m.driven j ≡ y → share k ≡ 1 → bundled m mark k j ≡ true → m.count k ≡ m.count j + slack → Passes m mark share flow x y slack

-- forward follows the moves, back goes against them
abbrev pub Follows : Way → Net → Marking → (ℕ → ℕ) → (ℕ → ℕ) → ℕ → ℕ → ℕ → Type 0
Follows Forward m mark share flow x y slack = Passes m mark share flow x y slack
Follows Back m mark share flow x y slack = Passes m mark share flow y x slack

-- moves without slack lead from a seed to the gate
pub data Tied (way : Way) (m : Net) (mark : Marking) (share flow : ℕ → ℕ) (Seed : ℕ → Type 0) : ℕ → Type 0 where
  seed : {g : ℕ} → Seed g → Tied way m mark share flow Seed g
  step : {x y : ℕ} → Tied way m mark share flow Seed x → Follows way m mark share flow x y 0 → Tied way m mark share flow Seed y
