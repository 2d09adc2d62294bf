-- The warning of `init` of rcc/clock_config.rs.
use Rattle.std.specs.Prelude.{ℕ, Bool, cond, ◌||◌, eqb}
use Rattle.journal.specs.Run.{Effect}

-- "`init` swallows 31 and 33 of its calibration and reports them beside done; 34 and 36 end it."
abbrev pub is_warning : ℕ → Bool
is_warning stop = eqb stop 31 || eqb stop 33

unfoldable pub warning : ℕ → ℕ
warning stop = cond (is_warning stop) stop 0

unfoldable pub swallowed : Effect
swallowed r = record {
  entries = r.entries;
  head = r.head;
  taken = r.taken;
  stop = cond (is_warning r.stop) 0 r.stop;
}
