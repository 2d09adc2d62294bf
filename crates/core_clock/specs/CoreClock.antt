-- The steps that set the core clock as a plan has it: rcc/clock_config.rs.
use Rattle.std.specs.Prelude.{ℕ, cond, List, eqb, Option, None, Some}
use Rattle.clock.specs.declared.Dll.{Dll}
use Rattle.plan.specs.declared.Plan.{Plan}
use Rattle.record.specs.Bytes.{bit}
use Rattle.clock_read.specs.Hpsys.{reg}
use Rattle.journal.specs.Run.{Effect, idle, ◌▸◌, store}
use Rattle.core_clock.specs.dividers.{dividers}
use Rattle.dll.specs.Dll.{configure_dll}
use Rattle.register.specs.Numbers.{SYSCLK}

-- `switch_away_from_dll1`: a core on DLL1 (3) goes to HXT48 (1) where that is ready, else to HRC48 (0)
unfoldable pub switch_away : Effect
switch_away r = cond (eqb (reg r.head SYSCLK) 3) (store SYSCLK (bit r.head.hxt48_ready)) idle r

-- `configure_dll1` where the plan has DLL1
abbrev pub planned_dll1 : Option Dll → List ℕ → Effect
planned_dll1 None a = idle
planned_dll1 (Some d) a = configure_dll 3 d a

-- `apply_dividers_and_sysclk`
unfoldable pub dividers_and_sysclk : Plan → Effect
dividers_and_sysclk p = dividers p ▸ store SYSCLK p.sys
