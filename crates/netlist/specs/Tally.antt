-- Bundles of wires that share registers, and the registers that a netlist needs.
use Rattle.std.specs.Prelude.{ℕ, zero, suc, ◌-◌, max, Bool, cond, ◌&&◌, ◌==◌}
use Rattle.graph.specs.Sums.{total}
use Rattle.netlist.specs.Net.{Net}

-- a mark for each wire, by its driver, its driven gate and its number
abbrev pub Marking : Type 0
Marking = ℕ → ℕ → ℕ → ℕ

-- the greatest f k among the k below a bound that pass the test; 0 where none does
abbrev pub greatest : (ℕ → Bool) → (ℕ → ℕ) → ℕ → ℕ
greatest p f zero = 0
greatest p f (suc k) = max (greatest p f k) (cond (p k) (f k) 0)

-- wire k leaves gate g under mark m: the wires of one gate and one mark form a bundle
abbrev pub together : Net → Marking → ℕ → ℕ → ℕ → Bool
together n mark g m k = n.driver k == g && mark (n.driver k) (n.driven k) k == m

-- what wire k needs beyond the earlier wires of its bundle
abbrev pub added : Net → Marking → ℕ → ℕ
added n mark k = n.count k - greatest (together n mark (n.driver k) (mark (n.driver k) (n.driven k) k)) n.count k

-- the sum over gates, over marks below a bound, of the greatest count in the bundle
abbrev pub tally_under : ℕ → Net → Marking → ℕ
tally_under bound n mark = total (λ g. total (λ m. greatest (together n mark g m) n.count n.wires) bound) n.gates

-- the registers that a netlist needs: marks run from 0 to 4,095
unfoldable pub tally_of : Net → Marking → ℕ
tally_of n mark = tally_under 4096 n mark

-- the sum over gates of the greatest count that leaves each: what is needed where all wires of a driver share
abbrev pub shared_sum : Net → ℕ
shared_sum n = total (λ g. greatest (λ k. n.driver k == g) n.count n.wires) n.gates

-- the sum of all counts: what is needed where each wire has its registers alone
abbrev pub alone_sum : Net → ℕ
alone_sum n = total n.count n.wires
