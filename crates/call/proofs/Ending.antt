-- The ways out of a call, `let mut m = call::admit(..)?; test(..)?; effect(&mut m, ..); call::finish(&m, ..)`, to what it leaves. With `ns`
-- its own tests after the shared ones, its answers are
--   returns-in_err-m c    = call_unadmitted c.in_err-m.ensures ns _ _ c.from_residual.ensures.1
--   returns-in_err-test c = call_refused c.in_ok-m.ensures ns _ _ _ TEST c.from_residual-in_err-test.ensures.1
--   effect-requires c     = lent_journal c.in_ok-m.ensures (omega arith)
--   returns c             = call_ran c.in_ok-m.ensures ns PASSED c.effect.ensures.ran c.finish.ensures
-- where TEST, mostly `c.in_err-test.ensures`, says that the refusal is the first of `ns`, and PASSED that this is 0.
-- A refusal by hand, `return Err(Refused::from(Refusal::X))`, has `c.from.ensures` in the place of `c.from_residual.ensures.1`. What else an
-- admitted call needs are fields of `c.in_ok-m.ensures`, as `encodable`, and `head_is` of it, that its head is that of the bytes.
-- A call on the head alone, `m.head = changed(&m.head)`, ends by `call_changed` of Changed.
use Prim.Native.Nat.{ℕ}
use mathlib.Core.Path.{◌≡◌, refl, sym, ap, ◌∙◌}
use mathlib.Core.Bool.{cond}
use mathlib.Core.List.{List, ◌++◌}
use lib.Dec.{eqb}
use borrow.Author.Tests.{ne_eqb}
use Rattle.std.specs.Prelude.{Ok, Err}
use Rattle.std.specs.Result.{IsErrAnd}
use Rattle.std.proofs.lemmas.Result.{err_from_is_err_and}
use Rattle.refusal.specs.declared.Refusal.{Refusal}
use Rattle.refusal.specs.Refusal.{number}
use Rattle.refusal.proofs.Numbers.{not_0}
use Rattle.record.specs.Refusals.{first_of}
use Rattle.record.proofs.Refusals.{first_refuses, first_passes}
use Rattle.head.specs.Record.{head_of, written}
use Rattle.journal.specs.declared.Machine.{Machine}
use Rattle.journal.specs.Run.{Effect, begin}
use Rattle.journal.specs.Machine.{State, state_of, machine_of, Ran}
use Rattle.call.specs.declared.answer.Refused.{Refused}
use Rattle.call.specs.Call.{Answer, refusal_of, performed, Answers, Admits, Finishes}
use Rattle.call.proofs.Admitting.{tests_passed}

-- an answer that a `?` or `Refused::from` made of a refusal
abbrev pub Refuses : Refusal → Answer → Type 0
Refuses n r = IsErrAnd r (λ (k : Refused). k ≡ record { refusal = n; entries = 0; taken = 0 })

pub refuses_number : (n : Refusal) (r : Answer) → Refuses n r → refusal_of r ≡ number n
refuses_number n r e = let p = err_from_is_err_and r e in rw (p.1, p.2) refl

-- a call that is refused by its tests changes neither head nor journal
pub answers_refused : {b j : List ℕ} {r : Answer} (refusal : ℕ) (n : Refusal) (f : Effect) (v : ℕ) → number n ≡ refusal → Refuses n r →
    Answers (performed refusal f v b j) r b j
unfolding performed
answers_refused {r = r} refusal n f v e q =
    let p = err_from_is_err_and r q in
    rw (p.1, p.2, ← e, ne_eqb (number n) 0 (not_0 n)) (record { refusal = refl; value = refl; entries = refl; taken = refl; buffer = refl; journal = refl })

-- a call that passes its tests and runs to its end
pub answers_run : {f : Effect} {v : ℕ} {b j b' j' : List ℕ} {m₀ m : Machine} {r : Answer} (refusal : ℕ) →
    refusal ≡ 0 → state_of m₀ ≡ machine_of (begin (head_of b)) → Ran f m₀ m j j' → Finishes m v r b b' → Answers (performed refusal f v b j) r b' j'
unfolding performed
answers_run {v = v} {b} {j} refusal e s x y =
    let at = x.does (begin (head_of b)) j (record { machine = s; journal = refl }) in
    let stop = ap (λ (w : State). w.stop) at.machine in
    rw e (record {
      refusal = y.refusal ∙ stop;
      value = y.value_is ∙ ap (λ (n : ℕ). cond (eqb n 0) v 0) stop;
      entries = y.entries ∙ ap (λ (w : State). w.at) at.machine;
      taken = y.taken ∙ ap (λ (w : State). w.taken) at.machine;
      buffer = y.buffer ∙ ap (λ (w : State). written w.head b) at.machine;
      journal = at.journal;
    })

-- the three ways out of a call: its shared tests `ts` refuse, its own tests `ns` refuse, or it runs
pub call_unadmitted : {ts b j : List ℕ} {n : Refusal} {r : Answer} → Admits ts b (Err n) → (ns : List ℕ) (f : Effect) (v : ℕ) → Refuses n r →
    Answers (performed (first_of (ts ++ ns)) f v b j) r b j
call_unadmitted {ts} {n = n} x ns f v = answers_refused _ n f v (x.refusal_is ∙ sym (first_refuses ts ns (λ q. not_0 n (x.refusal_is ∙ q))))

module _ {ts b : List ℕ} {m₀ : Machine} (x : Admits ts b (Ok m₀)) (ns : List ℕ) where
  pub call_refused : {j : List ℕ} {r : Answer} (n : Refusal) (f : Effect) (v : ℕ) → number n ≡ first_of ns → Refuses n r →
      Answers (performed (first_of (ts ++ ns)) f v b j) r b j
  call_refused n f v e = answers_refused _ n f v (e ∙ sym (first_passes ts ns (tests_passed x)))

  pub call_ran : {f : Effect} {v : ℕ} {j b' j' : List ℕ} {m : Machine} {r : Answer} → first_of ns ≡ 0 →
      Ran f m₀ m j j' → Finishes m v r b b' → Answers (performed (first_of (ts ++ ns)) f v b j) r b' j'
  call_ran e = answers_run _ (first_passes ts ns (tests_passed x) ∙ e) x.begun
