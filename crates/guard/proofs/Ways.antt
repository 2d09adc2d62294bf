-- The tests of the guarded change on the bytes lent to it: the plan's, then its own.
use Prim.Native.Nat.{ℕ}
use mathlib.Core.Path.{◌≡◌, sym, ◌∙◌}
use mathlib.Core.List.{List, [], ◌∷◌}
use Rattle.std.specs.Prelude.{Ok, Err}
use Rattle.refusal.specs.declared.Refusal.{Refusal}
use Rattle.refusal.specs.Refusal.{number}
use Rattle.refusal.proofs.Numbers.{not_0}
use Rattle.record.specs.Refusals.{first_of}
use Rattle.record.proofs.Refusals.{only_test, first_refuses, first_passes}
use Rattle.plan.specs.declared.Plan.{Plan}
use Rattle.plan.specs.bytes.{plan_of}
use Rattle.verdict.specs.Verdict.{verdict, number_of}
use Rattle.verdict.specs.declared.planned.Planned.{Planned}
use Rattle.verdict.specs.planned.{planned}
use Rattle.verdict.proofs.planned.Plans.{refused, plans}
use Rattle.head.specs.declared.Head.{Head}
use Rattle.head.specs.Record.{head_of}
use Rattle.journal.specs.declared.Machine.{Machine}
use Rattle.call.specs.Call.{answers_tests, Admits}
use Rattle.call.proofs.with_plan.Ending.{of_bytes}
use Rattle.guard.specs.tests.{guard_tests}
use Rattle.guard.specs.Guard.{change_tests}

-- the plan is refused
pub plan_first : (pb b : List ℕ) (n : Refusal) → Err (number n) ≡ planned pb → number n ≡ first_of (change_tests pb b)
plan_first pb b n y =
    let judged = refused pb (number n) y ∙ sym (only_test _) in
    judged ∙ sym (first_refuses (number_of (verdict pb) ∷ []) (guard_tests (plan_of pb) (head_of b)) (λ z. not_0 n (judged ∙ z)))

-- it is not, and the change's own tests decide
pub own_first : (pb b j a : List ℕ) {m : Machine} {q : Planned} → Admits (answers_tests b j a) b (Ok m) → Ok q ≡ planned pb →
    first_of (change_tests pb b) ≡ first_of (guard_tests q.plan m.head)
own_first pb b j a {q = q} x y =
    first_passes (number_of (verdict pb) ∷ []) (guard_tests (plan_of pb) (head_of b)) (only_test _ ∙ (plans pb q y).accepted)
    ∙ sym (of_bytes pb b j a x y (λ (p : Plan) (k : Head). first_of (guard_tests p k)))
