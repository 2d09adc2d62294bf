-- The guarded change, document 01's (1) to (8) one after the other, as an effect on a running call.
use Rattle.std.specs.Prelude.{ℕ, List}
use Rattle.time.specs.Frequency.{hz_or}
use Rattle.plan.specs.declared.Plan.{Plan}
use Rattle.plan_clocks.specs.Clocks.{hclk_hz}
use Rattle.clock_read.specs.Hpsys.{reg, hclk_of}
use Rattle.journal.specs.Run.{Effect, ◌▸◌}
use Rattle.dvfs.specs.declared.hpsys.HpsysDvfsMode.{HpsysDvfsMode}
use Rattle.core_clock.specs.dividers.{dividers}
use Rattle.core_clock.specs.CoreClock.{planned_dll1}
use Rattle.guard_steps.specs.peak.{mode_at, peak_of}
use Rattle.guard_steps.specs.supply.{raise, target_rails}
use Rattle.guard_steps.specs.Steps.{leave_dll1, to_hxt48, to_planned, back_to}
use Rattle.register.specs.Numbers.{FLASH}

-- (1) to (4), from the peak; "(4) if the plan has DLL1, `configure_dll1`'s stores, delay and wait"
abbrev pub steps1to4 : HpsysDvfsMode → Plan → List ℕ → Effect
steps1to4 peak p a = raise peak ▸ leave_dll1 ▸ to_hxt48 ▸ planned_dll1 p.dll1 a

-- (5) to (8), where `w` are the flash selects as they were; "(5) register 2"
abbrev pub steps5to8 : ℕ → Plan → Effect
steps5to8 w p = dividers p ▸ to_planned p ▸ back_to w ▸ target_rails (mode_at (hclk_hz p))

-- all steps
abbrev pub steps : HpsysDvfsMode → ℕ → Plan → List ℕ → Effect
steps peak w p a = steps1to4 peak p a ▸ steps5to8 w p

-- the guarded change on a running call: "Nothing else is stored."
unfoldable pub change : Plan → List ℕ → Effect
change p a r = steps (peak_of (hz_or 0 (hclk_of r.head)) (hclk_hz p)) (reg r.head FLASH) p a r
