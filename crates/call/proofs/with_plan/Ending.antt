-- The ways out of a call that is lent a plan, `let planned = verdict::planned::admit(plan)?` after the head's admission, and what it
-- leaves of the clocks.
use Prim.Native.Nat.{ℕ}
use mathlib.Core.Path.{◌≡◌, refl, sym, ap, ◌∙◌, subst}
use mathlib.Core.Bool.{cond}
use mathlib.Core.List.{List}
use lib.Dec.{eqb}
use borrow.Author.Tests.{ne_eqb}
use Rattle.std.specs.Prelude.{Ok, Err}
use Rattle.refusal.specs.declared.Refusal.{Refusal}
use Rattle.refusal.specs.Refusal.{number, number_or_zero}
use Rattle.refusal.proofs.Numbers.{not_0}
use Rattle.record.proofs.Refusals.{only_test}
use Rattle.plan.specs.declared.Plan.{Plan}
use Rattle.plan.specs.bytes.{plan_of}
use Rattle.verdict.specs.declared.planned.Planned.{Planned}
use Rattle.verdict.specs.planned.{planned}
use Rattle.verdict.proofs.planned.Plans.{refused, plans}
use Rattle.head.specs.declared.Head.{Head}
use Rattle.head.specs.Record.{head_of}
use Rattle.journal.specs.declared.Machine.{Machine}
use Rattle.journal.specs.Run.{Effect, begin}
use Rattle.journal.specs.Machine.{State, Ran}
use Rattle.call.specs.Call.{Left, Answer, answers_tests, Answers, Admits, Finishes}
use Rattle.call.proofs.Admitting.{head_is}
use Rattle.call.proofs.Ending.{Refuses, refuses_number, call_unadmitted, call_refused, call_ran}
use Rattle.call.specs.with_plan.{lent_plan_tests, plan_call, head_after}

-- what a call leaves, with the clocks `cs`: `xs` where it is done, else `ys`
abbrev pub Leaves : Left → Answer → List ℕ → List ℕ → List ℕ → List ℕ → List ℕ → Type 0
Leaves o r b' j' cs xs ys = Answers o r b' j' × (cs ≡ cond (eqb o.refusal 0) xs ys)

leaves_refused : (o : Left) (n : Refusal) (r : Answer) (b' j' xs ys : List ℕ) → Answers o r b' j' → Refuses n r → Leaves o r b' j' ys xs ys
leaves_refused o n r b' j' xs ys e q = (e, rw (ne_eqb o.refusal 0 (λ z. not_0 n (sym (refuses_number n r q) ∙ (e.refusal ∙ z)))))

module _ (pb b j a : List ℕ) where
  -- the shared tests refuse
  pub plan_unadmitted : {n : Refusal} → Admits (answers_tests b j a) b (Err n) → (f : Effect) (v : ℕ) (r : Answer) (xs ys : List ℕ) → Refuses n r →
      Leaves (plan_call f v pb b j a) r b j ys xs ys
  plan_unadmitted {n} x f v r xs ys e = leaves_refused _ n r b j xs ys (call_unadmitted x (lent_plan_tests pb) f v e) e

  module _ {m₀ : Machine} (x : Admits (answers_tests b j a) b (Ok m₀)) where
    -- the plan is refused
    pub plan_refused : (n : Refusal) → Err (number n) ≡ planned pb → (f : Effect) (v : ℕ) (r : Answer) (xs ys : List ℕ) → Refuses n r →
        Leaves (plan_call f v pb b j a) r b j ys xs ys
    plan_refused n y f v r xs ys e =
        leaves_refused _ n r b j xs ys (call_refused x (lent_plan_tests pb) n f v (refused pb (number n) y ∙ sym (only_test _)) e) e

    -- neither refuses: what is told of the plan and the head is told of the bytes
    module _ {q : Planned} (y : Ok q ≡ planned pb) where
      pub of_bytes : {A : Type 0} (W : Plan → Head → A) → W q.plan m₀.head ≡ W (plan_of pb) (head_of b)
      of_bytes W = ap (λ (p : Plan). W p m₀.head) (plans pb q y).plan_is ∙ ap (W (plan_of pb)) (head_is x)

      -- the call runs, its effect given by the plan
      pub plan_ran : (F : Plan → Effect) (G : Head → List ℕ) (ys : List ℕ) {v : ℕ} {b' j' cs : List ℕ} {m : Machine} {r : Answer} →
          Ran (F q.plan) m₀ m j j' → Finishes m v r b b' → cs ≡ cond (eqb (number_or_zero m.stop) 0) (G m.head) ys →
          Leaves (plan_call (F (plan_of pb)) v pb b j a) r b' j' cs (G (head_after (F (plan_of pb)) b)) ys
      plan_ran F G ys {j' = j'} {m = m} ran fin e =
          let judged = plans pb q y in
          let answers = call_ran x (lent_plan_tests pb) (only_test _ ∙ judged.accepted) (subst (λ (p : Plan). Ran (F p) m₀ m j j') judged.plan_is ran) fin in
          let after = ap (λ (k : State). k.head) (ran.does (begin (head_of b)) j (record { machine = x.begun; journal = refl })).machine
          ∙ ap (λ (p : Plan). (F p (begin (head_of b))).head) judged.plan_is in (
            answers,
            e ∙ (ap (λ (k : Head). cond (eqb (number_or_zero m.stop) 0) (G k) ys) after ∙ ap (λ (n : ℕ). cond (eqb n 0) (G (head_after (F (plan_of pb)) b)) ys) (sym fin.refusal ∙ answers.refusal)),
          )

-- the same ending with the same value under another name
pub finishes_as : {m : Machine} {v v' : ℕ} {r : Answer} {b b' : List ℕ} → v ≡ v' → Finishes m v r b b' → Finishes m v' r b b'
finishes_as {m} {v} {v'} {r} {b} {b'} e f = subst (λ (n : ℕ). Finishes m n r b b') e f
