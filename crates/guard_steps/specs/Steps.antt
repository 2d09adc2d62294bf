-- The steps of the guarded change that move the flash selects and the core's, document 01's (2), (3), (6) and (7), each as an effect on a
-- running call.
use Rattle.std.specs.Prelude.{ℕ, cond, eqb}
use Rattle.plan.specs.declared.Plan.{Plan}
use Rattle.head.specs.declared.Head.{Head}
use Rattle.guard_steps.specs.flash.{on_dll1, moved}
use Rattle.clock_read.specs.Hpsys.{reg}
use Rattle.journal.specs.Run.{Effect, idle, store}
use Rattle.register.specs.Numbers.{FLASH, SYSCLK}

-- "(2) flash selects on DLL1 go to Peri, one store, if any"
abbrev pub leave_dll1_on : Head → Effect
leave_dll1_on h = cond (on_dll1 (reg h FLASH)) (store FLASH (moved (reg h FLASH))) idle

unfoldable pub leave_dll1 : Effect
leave_dll1 r = leave_dll1_on r.head r

-- "(3) core to HXT48 if not there"
abbrev pub to_hxt48_on : Head → Effect
to_hxt48_on h = cond (eqb (reg h SYSCLK) 1) idle (store SYSCLK 1)

unfoldable pub to_hxt48 : Effect
to_hxt48 r = to_hxt48_on r.head r

-- "(6) core to the plan's select"
unfoldable pub to_planned : Plan → Effect
to_planned p = store SYSCLK p.sys

-- "(7) the moved flash selects go back, one store": `w` is what they were
unfoldable pub back_to : ℕ → Effect
back_to w = cond (on_dll1 w) (store FLASH w) idle
