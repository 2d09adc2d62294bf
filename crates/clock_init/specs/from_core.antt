-- `init` of rcc/clock_config.rs from the core clock on, as a run.
use Rattle.std.specs.Prelude.{ℕ, List}
use Rattle.plan.specs.declared.Plan.{Plan}
use Rattle.journal.specs.Run.{Effect, ◌▸◌}
use Rattle.core_clock.specs.dividers.{dividers}
use Rattle.core_clock.specs.switch.{to_plan}
use Rattle.init_rest.specs.Rest.{init_rest}

-- the plan's dividers first, the core clock, then the rest
unfoldable pub init_clock : Plan → List ℕ → Effect
init_clock p a = dividers p ▸ to_plan p a ▸ init_rest p a
