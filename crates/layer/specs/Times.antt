-- A netlist whose counts are taken times a factor: which factors suit it, what is shown, and what its paths carry.
use Rattle.std.specs.Prelude.{◌≡◌, ℕ, ◌*◌, ◌≤◌, List}
use Rattle.netlist.specs.Net.{Net}
use Rattle.netlist.specs.Path.{Path, carried}
use Rattle.wiring.specs.Check.{NoneBelow, Lowest, Deep}
use Rattle.layer.specs.declared.fault.LayerFault.{LayerFault}
use Rattle.layer.specs.declared.fault.LayerFault.TheVariants.{BadFactor, CountTooLarge}

-- the same gates, pins and wires, with each count times the factor
abbrev pub times : ℕ → Net → Net
times factor n = record { gates = n.gates; pinned = n.pinned; wires = n.wires; driver = n.driver; driven = n.driven; count = λ k. factor * n.count k }

-- the factors of an interleaving
abbrev pub Factor : ℕ → Type 0
Factor factor = (1 ≤ factor) × (factor ≤ 15)

-- the factor is one of 1 to 15, and no count times the factor is too large
pub record Passes (factor : ℕ) (n : Net) : Type 0 where
  pub range : Factor factor
  pub counts : NoneBelow n.wires (Deep 1048575 (times factor n))

-- the first fault, tried in this order
abbrev pub Fails : ℕ → Net → LayerFault → Type 0
Fails factor n BadFactor = Factor factor → ⊥
Fails factor n (CountTooLarge k) = Factor factor × Lowest n.wires (Deep 1048575 (times factor n)) k

-- the factor that is shown; it always passes
pub record Chosen (factor : ℕ) (n : Net) (shown : ℕ) : Type 0 where
  pub accepted : Passes factor n → shown ≡ factor
  pub refused : (f : LayerFault) → Fails factor n f → shown ≡ 1
  pub passes : Passes shown n

-- m is what an interleaving of n shows
pub record Shows (factor : ℕ) (n m : Net) : Type 0 where
  pub accepted : Passes factor n → m ≡ times factor n
  pub refused : (f : LayerFault) → Fails factor n f → m ≡ n

-- the wires of each path of n are a path of m, which carries so many times as many registers
abbrev pub Carries : ℕ → Net → Net → Type 0
Carries factor n m = (u v : ℕ) (ks : List ℕ) → Path n u ks v → Path m u ks v × (carried m ks ≡ factor * carried n ks)

-- what the paths of n carry in an interleaving m of n
pub record ShowsPaths (factor : ℕ) (n m : Net) : Type 0 where
  pub accepted : Passes factor n → Carries factor n m
  pub refused : (f : LayerFault) → Fails factor n f → Carries 1 n m
