-- The peak of a guarded change.
use Rattle.std.specs.Prelude.{ℕ, cond, leb, Option, Some, None}
use Rattle.time.specs.Frequency.{megahertz}
use Rattle.dvfs.specs.declared.hpsys.HpsysDvfsMode.{HpsysDvfsMode}
use Rattle.dvfs.specs.declared.hpsys.HpsysDvfsMode.TheVariants.{D1, S1}
use Rattle.dvfs.specs.Hpsys.{mode_of, mode_number}

-- the mode of a frequency in Hz; the highest where it has none, which neither a clock within its rail limit nor an accepted plan's is
abbrev pub mode_or_highest : Option HpsysDvfsMode → HpsysDvfsMode
mode_or_highest (Some m) = m
mode_or_highest None = S1

unfoldable pub mode_at : ℕ → HpsysDvfsMode
mode_at hz = mode_or_highest (mode_of (megahertz hz))

-- the higher of two modes
unfoldable pub highest : HpsysDvfsMode → HpsysDvfsMode → HpsysDvfsMode
highest m n = cond (leb (mode_number n) (mode_number m)) m n

-- "Peak is the highest mode among the present HCLK's, D1 and the target's."
unfoldable pub peak_of : ℕ → ℕ → HpsysDvfsMode
peak_of present target = highest (highest (mode_at present) D1) (mode_at target)
