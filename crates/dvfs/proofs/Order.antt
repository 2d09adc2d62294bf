-- What the derived order of the modes says: a mode is above those of smaller numbers.
use mathlib.Core.Path.{◌≡◌}
use Rattle.std.proofs.Common.{rules}
use mathlib.Core.Bool.{cond}
use lib.Dec.{eqb, ltb, leb}
use denote.Enum.Bare.{sameb}
use Rattle.std.specs.Ordering.{partial_lt, ord_max}
use Rattle.dvfs.specs.declared.hpsys.HpsysDvfsMode.{HpsysDvfsMode}
use Rattle.dvfs.specs.contracts.hpsys.HpsysDvfsMode.{the_type}
use Rattle.dvfs.specs.contracts.hpsys.HpsysDvfsModePartialOrd.TheImpl.{partial_cmp-value}
use Rattle.dvfs.specs.contracts.hpsys.HpsysDvfsModeOrd.TheImpl.{cmp-value}
use Rattle.dvfs.specs.Hpsys.{mode_number}

-- `m == n`
pub mode_eq : (m n : HpsysDvfsMode) → sameb the_type m n ≡ eqb (mode_number m) (mode_number n)
mode_eq m n = search rules

-- `m < n`
pub mode_lt : (m n : HpsysDvfsMode) → partial_lt partial_cmp-value.it m n ≡ ltb (mode_number m) (mode_number n)
mode_lt m n = search rules

-- `m.max(n)`
pub mode_max : (m n : HpsysDvfsMode) → ord_max cmp-value.it m n ≡ cond (leb (mode_number n) (mode_number m)) m n
mode_max m n = search rules
