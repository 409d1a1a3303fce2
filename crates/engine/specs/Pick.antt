-- Gates with a surplus to move, and gates that take one.
use Rattle.std.specs.Prelude.{◌≡◌, ℕ, ◌<◌, Bool, true, false, ◌⊎◌, List, Option, MatchOption, slice_index}
use Rattle.retiming.specs.declared.way.Way.{Way}
use Rattle.retiming.specs.Tied.{Excess, Spent, opposite}
use Rattle.engine.specs.Table.{fixed_of}

-- gate g may move and has a surplus to move
abbrev pub Seed : Way → List Bool → List ℕ → List ℕ → ℕ → Type 0
Seed way fixed gains costs g = (fixed_of fixed g ≡ false) × Excess way (slice_index gains g) (slice_index costs g)

-- gate g has none, if it may move
abbrev pub Idle : Way → List Bool → List ℕ → List ℕ → ℕ → Type 0
Idle way fixed gains costs g = fixed_of fixed g ≡ false → Spent way (slice_index gains g) (slice_index costs g)

-- gate g takes a surplus: it is fixed, or lacks one
abbrev pub Sink : Way → List Bool → List ℕ → List ℕ → ℕ → Type 0
Sink way fixed gains costs g = (fixed_of fixed g ≡ true) ⊎ Excess (opposite way) (slice_index gains g) (slice_index costs g)

-- gate g takes none
abbrev pub NoSink : Way → List Bool → List ℕ → List ℕ → ℕ → Type 0
NoSink way fixed gains costs g = (fixed_of fixed g ≡ false) × Spent (opposite way) (slice_index gains g) (slice_index costs g)

-- the seeds are marked 1 and the other gates 0
pub record Seeded (way : Way) (gates : ℕ) (fixed : List Bool) (gains costs marks : List ℕ) : Type 0 where
  pub each : (g : ℕ) → g < gates → ((slice_index marks g ≡ 1) × Seed way fixed gains costs g) ⊎ ((slice_index marks g ≡ 0) × Idle way fixed gains costs g)

-- no gate has a surplus to move
abbrev pub NoSeed : Way → ℕ → List Bool → List ℕ → List ℕ → Type 0
NoSeed way gates fixed gains costs = (g : ℕ) → g < gates → Idle way fixed gains costs g

-- the seeds are marked, and there is one
abbrev pub SomeSeeds : Way → ℕ → List Bool → List ℕ → List ℕ → List ℕ → Type 0
SomeSeeds way gates fixed gains costs marks = Seeded way gates fixed gains costs marks × ((s : ℕ) × (s < gates) × Seed way fixed gains costs s)

-- a marked gate that takes a surplus, or none where no marked gate does
abbrev pub FirstSink : Way → ℕ → List Bool → List ℕ → List ℕ → List ℕ → Option ℕ → Type 0
FirstSink way gates fixed gains costs marks r =
    MatchOption r ((g : ℕ) → g < gates → slice_index marks g ≡ 1 → NoSink way fixed gains costs g) (λ g. (g < gates) × (slice_index marks g ≡ 1) × Sink way fixed gains costs g)
