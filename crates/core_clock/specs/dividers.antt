-- The dividers of the core and its buses: rcc/clock_config.rs.
use Rattle.plan.specs.declared.Plan.{Plan}
use Rattle.register.specs.Word.{word_of}
use Rattle.journal.specs.Run.{Effect, store}
use Rattle.register.specs.Numbers.{HPSYS_CFGR}

-- the plan's dividers
unfoldable pub dividers : Plan → Effect
dividers p = store HPSYS_CFGR (word_of p.hdiv p.pdiv1 p.pdiv2)
