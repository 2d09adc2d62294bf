-- The guarded change on the bytes lent to it: `pb` a plan's, `b` a head's, `j` a journal, `a` answers.
use Rattle.std.specs.Prelude.{ℕ, List, ◌∷◌, ◌++◌}
use Rattle.record.specs.Refusals.{first_of}
use Rattle.plan.specs.bytes.{plan_of}
use Rattle.verdict.specs.Verdict.{verdict, number_of}
use Rattle.head.specs.Record.{head_of}
use Rattle.call.specs.Call.{Left, answers_tests, performed}
use Rattle.guard_change.specs.Change.{change}
use Rattle.guard.specs.tests.{guard_tests}

-- the plan's 1 to 14, then its own
abbrev pub change_tests : List ℕ → List ℕ → List ℕ
change_tests pb b = number_of (verdict pb) ∷ guard_tests (plan_of pb) (head_of b)

-- all tests before the first store: "Calls test 17, 18, the head's 1 to 3, then the rest."
abbrev pub change_refusal : List ℕ → List ℕ → List ℕ → List ℕ → ℕ
change_refusal pb b j a = first_of (answers_tests b j a ++ change_tests pb b)

unfoldable pub change_call : List ℕ → List ℕ → List ℕ → List ℕ → Left
change_call pb b j a = performed (change_refusal pb b j a) (change (plan_of pb) a) 0 b j
