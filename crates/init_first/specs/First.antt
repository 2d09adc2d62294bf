-- What `init` of rcc/clock_config.rs does before it sets the core clock, on all but a standby boot.
use Rattle.std.specs.Prelude.{ℕ, ◌≡◌, cond, List, eqb}
use Rattle.plan.specs.declared.Plan.{Plan}
use Rattle.head.specs.declared.Head.{Head}
use Rattle.clock_read.specs.Hpsys.{reg}
use Rattle.journal.specs.declared.Machine.{Machine}
use Rattle.journal.specs.Run.{Run, Effect, idle, halted, ◌▸◌, store}
use Rattle.journal.specs.Machine.{Reached}
use Rattle.calibration.specs.Calibration.{calibrate_hrc48}
use Rattle.init_first.specs.warning.{warning, swallowed}
use Rattle.register.specs.Numbers.{DLL_BUFFER_ON, LOW_POWER, LRC32_ON, SYSCLK}

-- LRC32 on, the low-power clock on Lrc32 (1), the DLL buffer on
unfoldable pub boot_stores : Effect
boot_stores = store LRC32_ON 1 ▸ store LOW_POWER 1 ▸ store DLL_BUFFER_ON 1

-- away from HRC48 (0) to HXT48 (1), which must be ready: "32 `init` must calibrate on HRC48 without HXT48"
abbrev pub leave_hrc48_on : Head → Effect
leave_hrc48_on h = cond (eqb (reg h SYSCLK) 0) (cond h.hxt48_ready (store SYSCLK 1) (halted 32)) idle

unfoldable pub leave_hrc48 : Effect
leave_hrc48 r = leave_hrc48_on r.head r

-- the calibration that a plan asks for
unfoldable pub calibrating : Plan → List ℕ → Effect
calibrating p a = cond p.hrc48_calibrate (leave_hrc48 ▸ calibrate_hrc48 a) idle

-- all of it
unfoldable pub init_first : Plan → List ℕ → Effect
init_first p a = boot_stores ▸ calibrating p a ▸ swallowed

-- `w` is the warning of the stop that the effect `f` comes to from the machine `m`
pub record Warned (f : Effect) (m : Machine) (j : List ℕ) (w : ℕ) : Type 0 where
  pub told : (r : Run) (j₀ : List ℕ) → Reached r j₀ m j → w ≡ warning (f r).stop
