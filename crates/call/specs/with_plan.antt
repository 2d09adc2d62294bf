-- A call that is lent a plan, on the bytes lent to it: `pb` a plan's, `b` a head's, `j` a journal, `a` answers.
use Rattle.std.specs.Prelude.{ℕ, List, [], ◌∷◌, ◌++◌}
use Rattle.record.specs.Refusals.{first_of}
use Rattle.verdict.specs.Verdict.{verdict, number_of}
use Rattle.head.specs.declared.Head.{Head}
use Rattle.head.specs.Record.{head_of}
use Rattle.journal.specs.Run.{Effect, begin}
use Rattle.call.specs.Call.{Left, answers_tests, performed}

-- the plan's 1 to 14 come after the head's
abbrev pub lent_plan_tests : List ℕ → List ℕ
lent_plan_tests pb = number_of (verdict pb) ∷ []

abbrev pub plan_call : Effect → ℕ → List ℕ → List ℕ → List ℕ → List ℕ → Left
plan_call f value pb b j a = performed (first_of (answers_tests b j a ++ lent_plan_tests pb)) f value b j

-- the head as an effect leaves it
abbrev pub head_after : Effect → List ℕ → Head
head_after f b = (f (begin (head_of b))).head
