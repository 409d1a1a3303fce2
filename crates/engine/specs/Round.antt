-- What one round finds: nothing to move, one unit carried to where it is taken, or a set of gates that is stuck.
use Rattle.std.specs.Prelude.{◌≡◌, ℕ, ◌+◌, ◌-◌, ◌*◌, ◌<◌, Bool, true, false, cond, List, length}
use Rattle.graph.specs.Sums.{total}
use Rattle.retiming.specs.declared.way.Way.{Way}
use Rattle.retiming.specs.Tied.{Excess, Spent, Tied, opposite}
use Rattle.retiming.specs.Witness.{gain, cost}
use Rattle.retiming.proofs.Falls.{won, lost}
use Rattle.engine.specs.declared.link.Link.{Link}
use Rattle.engine.specs.declared.outcome.Outcome.{Outcome}
use Rattle.engine.specs.declared.outcome.Outcome.TheVariants.{Settled, Carried, Stuck as Halted}
use Rattle.engine.specs.Leftover.{leftover}
use Rattle.engine.specs.Rows.{deep, shares, flows}
use Rattle.engine.specs.Step.{inside}
use Rattle.engine.specs.Table.{table, bundles, fixed_of}

-- gate g has a surplus that the way moves; it has none
abbrev pub Over : Way → ℕ → List Link → List ℕ → List ℕ → ℕ → Type 0
Over way gates links holders row g = Excess way (gain (table gates links) (shares links holders) (flows row) g) (cost (table gates links) (shares links holders) (flows row) g)

abbrev pub Done : Way → ℕ → List Link → List ℕ → List ℕ → ℕ → Type 0
Done way gates links holders row g = Spent way (gain (table gates links) (shares links holders) (flows row) g) (cost (table gates links) (shares links holders) (flows row) g)

-- no gate that may move has a surplus that the way moves
abbrev pub AllDone : Way → ℕ → List Link → List Bool → List ℕ → List ℕ → Type 0
AllDone way gates links fixed holders row = (g : ℕ) → g < gates → fixed_of fixed g ≡ false → Done way gates links holders row g

-- a gate inside the set, with a surplus that the way moves
abbrev pub InnerSeed : Way → ℕ → List Link → List ℕ → List ℕ → List ℕ → ℕ → Type 0
InnerSeed way gates links holders row marks s = (inside gates marks s ≡ true) × ((s < gates) × Over way gates links holders row s)

-- the marked gates may move and lack no surplus, no open arc leads out of them, and each is tied to one of them with a surplus
pub record Stuck (way : Way) (gates : ℕ) (links : List Link) (fixed : List Bool) (depths holders row marks : List ℕ) : Type 0 where
  pub free : (g : ℕ) → g < gates → inside gates marks g ≡ true → fixed_of fixed g ≡ false
  pub willing : (g : ℕ) → g < gates → inside gates marks g ≡ true → Done (opposite way) gates links holders row g
  pub closed : (a : ℕ) → a < 3 * length links → (leftover way gates links depths holders row).opens a ≡ true → inside gates marks ((leftover way gates links depths holders row).from a) ≡ true → inside gates marks ((leftover way gates links depths holders row).to a) ≡ true
  pub tied : (g : ℕ) → g < gates → inside gates marks g ≡ true → Tied way (deep gates links depths) (bundles links) (shares links holders) (flows row) (InnerSeed way gates links holders row marks) g
  pub start : (s : ℕ) × InnerSeed way gates links holders row marks s

-- the surplus of a gate that may move, as far as the way moves it
abbrev pub surplus_at : Way → ℕ → List Link → List Bool → List ℕ → List ℕ → ℕ → ℕ
surplus_at way gates links fixed holders row g =
    cond (fixed_of fixed g) 0 (won way (gain (table gates links) (shares links holders) (flows row) g) (cost (table gates links) (shares links holders) (flows row) g) - lost way (gain (table gates links) (shares links holders) (flows row) g) (cost (table gates links) (shares links holders) (flows row) g))

abbrev pub excess : Way → ℕ → List Link → List Bool → List ℕ → List ℕ → ℕ
excess way gates links fixed holders row = total (surplus_at way gates links fixed holders row) gates

-- one unit less is over, and no surplus against the way has come up
pub record Less (way : Way) (gates : ℕ) (links : List Link) (fixed : List Bool) (holders row holders' row' : List ℕ) : Type 0 where
  pub fewer : excess way gates links fixed holders' row' + 1 ≡ excess way gates links fixed holders row
  pub against : AllDone (opposite way) gates links fixed holders row → AllDone (opposite way) gates links fixed holders' row'

-- what each outcome of a round says
abbrev pub Came : Way → ℕ → List Link → List Bool → List ℕ → List ℕ → List ℕ → List ℕ → List ℕ → Outcome → Type 0
Came way gates links fixed depths holders row holders' row' Settled = (holders' ≡ holders) × (row' ≡ row) × AllDone way gates links fixed holders row
Came way gates links fixed depths holders row holders' row' Carried = Less way gates links fixed holders row holders' row'
Came way gates links fixed depths holders row holders' row' (Halted marks) = (holders' ≡ holders) × (row' ≡ row) × Stuck way gates links fixed depths holders row marks

-- some set of gates is stuck: moved as one, it saves registers
abbrev pub Improves : Way → ℕ → List Link → List Bool → List ℕ → List ℕ → List ℕ → Type 0
Improves way gates links fixed depths holders row = (marks : List ℕ) × Stuck way gates links fixed depths holders row marks
