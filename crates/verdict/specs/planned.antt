-- A plan's bytes as a call takes them.
use Rattle.std.specs.Prelude.{ℕ, List, Result, Ok, Err}
use Rattle.plan.specs.declared.Plan.{Plan}
use Rattle.plan.specs.bytes.{plan_of}
use Rattle.plan_clocks.specs.declared.Target.{Target}
use Rattle.verdict.specs.Verdict.{verdict}
use Rattle.verdict.specs.declared.planned.Planned.{Planned}

-- what a verdict gives of its plan
abbrev pub planned_by : Plan → Result Target ℕ → Result Planned ℕ
planned_by p (Ok t) = Ok (record { plan = p; target = t })
planned_by p (Err n) = Err n

-- the plan and what it gives, or the plan's refusal 1 to 14
unfoldable pub planned : List ℕ → Result Planned ℕ
planned pb = planned_by (plan_of pb) (verdict pb)
