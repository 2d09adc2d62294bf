-- The verdict on a plan: `ConfigBuilder::check`, and what an accepted plan gives. A refusal goes by its number.
use Rattle.std.specs.Prelude.{ℕ, List, cond, eqb, Result, Ok, Err}
use Rattle.plan.specs.declared.Plan.{Plan}
use Rattle.plan.specs.bytes.{decoded}
use Rattle.plan_clocks.specs.declared.Target.{Target}
use Rattle.plan_clocks.specs.Clocks.{target_of}
use Rattle.verdict.specs.tests.{plan_refusal}

-- the verdict on a plan value
unfoldable pub verdict_of : Plan → Result Target ℕ
verdict_of p = cond (eqb (plan_refusal p) 0) (Ok (target_of p)) (Err (plan_refusal p))

-- the verdict on what a slice of bytes decodes to
abbrev pub judged : Result Plan ℕ → Result Target ℕ
judged (Ok p) = verdict_of p
judged (Err n) = Err n

-- the verdict on a slice of bytes
unfoldable pub verdict : List ℕ → Result Target ℕ
verdict b = judged (decoded b)

-- document 01's number of a verdict: 0 for an accepted plan
abbrev pub number_of : Result Target ℕ → ℕ
number_of (Ok t) = 0
number_of (Err n) = n
