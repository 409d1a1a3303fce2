-- Lags pushed along a way, each gate by an amount of its own or the gates of a set by one amount.
use Rattle.std.specs.Prelude.{ℕ, Bool, cond, ℤ, pos, ◌+ℤ◌, ◌-ℤ◌}
use Rattle.netlist.specs.Lags.{Lags}
use Rattle.retiming.specs.declared.way.Way.{Way}
use Rattle.retiming.specs.declared.way.Way.TheVariants.{Forward, Back}

-- lag x pushed by k: forward lowers, back raises
abbrev pub push : Way → ℕ → ℤ → ℤ
push Forward k x = x -ℤ pos k
push Back k x = x +ℤ pos k

abbrev pub pushed_by : Way → (ℕ → ℕ) → Lags → Lags
pushed_by way amount r g = push way (amount g) (r g)

-- the amount k at the gates of a set, and 0 at the others
abbrev pub only_on : (ℕ → Bool) → ℕ → ℕ → ℕ
only_on inside k g = cond (inside g) k 0
