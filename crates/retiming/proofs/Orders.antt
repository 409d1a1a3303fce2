-- Two lags of a gate: which lies farther along a way, and the farther and the nearer of them.
use Rattle.std.proofs.Common.{◌≡◌, ℤ, arith}
use borrow.Author.Differences.{le_out, at_most_in, same_in}
use Rattle.std.specs.Int.{int_min, int_max}
use Rattle.std.proofs.lemmas.Int.{int_min_is, int_max_is}
use Rattle.retiming.specs.declared.way.Way.{Way}
use Rattle.retiming.specs.declared.way.Way.TheVariants.{Forward, Back}
use Rattle.retiming.specs.Nearest.{Along}
use Rattle.retiming.specs.Tied.{opposite}

-- of two lags the one farther along the way, and the nearer one
abbrev pub far : Way → ℤ → ℤ → ℤ
far Forward x y = int_min x y
far Back x y = int_max x y

abbrev pub near : Way → ℤ → ℤ → ℤ
near Forward x y = int_max x y
near Back x y = int_min x y

pub along_self : (way : Way) (x : ℤ) → Along way x x
along_self Forward x = at_most_in x x (omega arith)
along_self Back x = at_most_in x x (omega arith)

pub along_trans : (way : Way) (x y z : ℤ) → Along way x y → Along way y z → Along way x z
along_trans Forward x y z p q = at_most_in x z (omega (arith, le_out x y p, le_out y z q))
along_trans Back x y z p q = at_most_in z x (omega (arith, le_out y x p, le_out z y q))

pub along_both : (way : Way) (x y : ℤ) → Along way x y → Along way y x → x ≡ y
along_both Forward x y p q = same_in x y (omega (arith, le_out x y p, le_out y x q))
along_both Back x y p q = same_in x y (omega (arith, le_out y x p, le_out x y q))

pub along_opposite : (way : Way) (x y : ℤ) → Along way x y → Along (opposite way) y x
along_opposite Forward x y p = p
along_opposite Back x y p = p

pub far_left : (way : Way) (x y : ℤ) → Along way (far way x y) x
far_left Forward x y = at_most_in (int_min x y) x (omega (arith, int_min_is x y))
far_left Back x y = at_most_in x (int_max x y) (omega (arith, int_max_is x y))

pub far_right : (way : Way) (x y : ℤ) → Along way (far way x y) y
far_right Forward x y = at_most_in (int_min x y) y (omega (arith, int_min_is x y))
far_right Back x y = at_most_in y (int_max x y) (omega (arith, int_max_is x y))

pub far_bound : (way : Way) (x y z : ℤ) → Along way z x → Along way z y → Along way z (far way x y)
far_bound Forward x y z p q = at_most_in z (int_min x y) (omega (arith, int_min_is x y, le_out z x p, le_out z y q))
far_bound Back x y z p q = at_most_in (int_max x y) z (omega (arith, int_max_is x y, le_out x z p, le_out y z q))

pub near_left : (way : Way) (x y : ℤ) → Along way x (near way x y)
near_left Forward x y = at_most_in x (int_max x y) (omega (arith, int_max_is x y))
near_left Back x y = at_most_in (int_min x y) x (omega (arith, int_min_is x y))

pub near_right : (way : Way) (x y : ℤ) → Along way y (near way x y)
near_right Forward x y = at_most_in y (int_max x y) (omega (arith, int_max_is x y))
near_right Back x y = at_most_in (int_min x y) y (omega (arith, int_min_is x y))

pub near_bound : (way : Way) (x y z : ℤ) → Along way x z → Along way y z → Along way (near way x y) z
near_bound Forward x y z p q = at_most_in (int_max x y) z (omega (arith, int_max_is x y, le_out x z p, le_out y z q))
near_bound Back x y z p q = at_most_in z (int_min x y) (omega (arith, int_min_is x y, le_out z x p, le_out z y q))
