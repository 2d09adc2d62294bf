-- `init` of rcc/clock_config.rs, as a run.
use Rattle.std.specs.Prelude.{ℕ, cond, List, ◌==◌}
use Rattle.plan.specs.declared.Plan.{Plan}
use Rattle.head.specs.declared.Head.{Head}
use Rattle.journal.specs.Run.{Run, Effect, idle, ◌▸◌}
use Rattle.init_first.specs.begin.{init_begin}
use Rattle.init_first.specs.warning.{warning}
use Rattle.init_first.specs.First.{boot_stores, calibrating, init_first}
use Rattle.clock_init.specs.from_core.{init_clock}

-- all of it but for what every boot does
unfoldable pub boot : Plan → List ℕ → Effect
boot p a = init_first p a ▸ init_clock p a

-- `PM_STANDBY_BOOT` is boot mode 3
abbrev pub init_on : Plan → List ℕ → Head → Effect
init_on p a h = init_begin a ▸ cond (h.boot_mode == 3) idle (boot p a)

unfoldable pub init : Plan → List ℕ → Effect
init p a r = init_on p a r.head r

-- the 31 or 33 of its calibration that `init` reports beside done, or 0
unfoldable pub init_warning : Plan → List ℕ → Run → ℕ
init_warning p a r = cond (r.head.boot_mode == 3) 0 (warning ((init_begin a ▸ (boot_stores ▸ calibrating p a)) r).stop)
