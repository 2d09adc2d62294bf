-- What `init` of rcc/clock_config.rs leaves, on the bytes lent to it: `pb` a plan's, `b` a head's, `j` a journal, `a` answers.
use Rattle.std.specs.Prelude.{ℕ, cond, List, eqb, replicate}
use Rattle.plan.specs.bytes.{plan_of}
use Rattle.head.specs.Record.{head_of}
use Rattle.readings.specs.Clocks.{clocks_of}
use Rattle.journal.specs.Run.{begin}
use Rattle.call.specs.Call.{Left}
use Rattle.call.specs.with_plan.{plan_call, head_after}
use Rattle.clock_init.specs.Init.{init, init_warning}

-- `init`
unfoldable pub init_call : List ℕ → List ℕ → List ℕ → List ℕ → Left
init_call pb b j a = plan_call (init (plan_of pb) a) (init_warning (plan_of pb) a (begin (head_of b))) pb b j a

-- "`init` gives the `Clocks` read last, all none on a refusal."
unfoldable pub init_clocks : List ℕ → List ℕ → List ℕ → List ℕ → List ℕ
init_clocks pb b j a = cond (eqb (init_call pb b j a).refusal 0) (clocks_of (head_after (init (plan_of pb) a) b)) (replicate 15 0)
