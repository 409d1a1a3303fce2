-- A list of wires into which a netlist is settled: the records in front, and what they open as.
use Rattle.std.specs.Prelude.{◌≡◌, ℕ, ◌<◌, ◌≤◌, List, length, take, Result, MatchResult, nat_lt, slice_index_or}
use Rattle.netlist.specs.Net.{Net}
use Rattle.wiring.specs.declared.wire.Wire.{Wire}
use Rattle.wiring.specs.Held.{HoldsWires}
use Rattle.wiring.specs.List.{listed, Passes}
use Rattle.wiring.specs.Wires.{no_wire}
use Rattle.output.specs.declared.fault.SettleFault.{SettleFault}
use Rattle.output.specs.declared.fault.SettleFault.TheVariants.{ShortList}

-- the records from a place on are as they were
abbrev pub KeptWires : ℕ → List Wire → List Wire → Type 0
KeptWires place before after = (k : ℕ) → place ≤ k → slice_index_or after k no_wire ≡ slice_index_or before k no_wire

-- the pinned gates are those below the pin number
abbrev pub PinnedBelow : Net → ℕ → Type 0
PinnedBelow n pins = (pins ≤ n.gates) × ((g : ℕ) → g < n.gates → n.pinned g ≡ nat_lt g pins)

-- as a list of wires with so many gates and pins, ws passes its check and is n
pub record Lists (n : Net) (pins : ℕ) (ws : List Wire) : Type 0 where
  pub passes : Passes 1048575 n.gates pins ws
  pub same : listed n.gates pins ws ≡ n

-- so many wires are written, later records are kept, and where a pin number tells the pins the records open as n
pub record Settled (n : Net) (before after : List Wire) (r : ℕ) : Type 0 where
  pub size_is : r ≡ n.wires
  pub room : n.wires ≤ length before
  pub written : HoldsWires n after
  pub kept : KeptWires n.wires before after
  pub opens : (pins : ℕ) → PinnedBelow n pins → Lists n pins (take n.wires after)

-- the list is too short, and all is as it was
pub record Unsettled (n : Net) (before after : List Wire) (f : SettleFault) : Type 0 where
  pub why : f ≡ ShortList
  pub short : length before < n.wires
  pub same : after ≡ before

abbrev pub Settles : Net → List Wire → List Wire → Result ℕ SettleFault → Type 0
Settles n before after r = MatchResult r (Settled n before after) (Unsettled n before after)
