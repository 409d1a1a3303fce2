-- The bytes of the lines of a listing.
use Rattle.std.specs.Prelude.{ℕ, List, ◌++◌, codes, decimal}
use Rattle.netlist.specs.Net.{Net, pins}
use Rattle.netlist.specs.Tally.{shared_sum}

abbrev pub net_line : ℕ → ℕ → ℕ → List ℕ
net_line gates pins wires = codes "net " ++ (decimal gates ++ (codes " " ++ (decimal pins ++ (codes " " ++ (decimal wires ++ codes "\n")))))

abbrev pub regs_line : ℕ → ℕ → List ℕ
regs_line before after = codes "regs " ++ (decimal before ++ (codes " " ++ (decimal after ++ codes "\n")))

abbrev pub refused_line : ℕ → List ℕ
refused_line number = codes "refused " ++ (decimal number ++ codes "\n")

-- the lines of a netlist, whose registers are those at lags 0 and, as nothing moves yet, the present ones
abbrev pub listing : Net → List ℕ
listing n = net_line n.gates (pins n) n.wires ++ regs_line (shared_sum n) (shared_sum n)
