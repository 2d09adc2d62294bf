-- What the first tests of a call leave.
use Prim.Native.Nat.{ℕ, ◌≤◌}
use mathlib.Core.Path.{◌≡◌, sym, ap, ◌∙◌, subst}
use mathlib.Core.List.{List}
use native.Mathlib.Omega.{arith}
use lib.Dec.{ltb}
use borrow.Author.Tests.{ltb-false}
use lib.ListN.{length}
use Rattle.std.specs.Prelude.{Result, Ok, Err}
use Rattle.refusal.specs.declared.Refusal.{Refusal}
use Rattle.refusal.specs.Refusal.{number}
use Rattle.refusal.proofs.Numbers.{not_0}
use Rattle.record.specs.Refusals.{first_of}
use Rattle.record.proofs.Refusals.{none_refused, not_refused, only_test}
use Rattle.record.specs.Bytes.{Bytes}
use Rattle.head.specs.Record.{buffer_bytes, head_refusal, head_of}
use Rattle.head.specs.Encodable.{Encodable}
use Rattle.head.proofs.from_bytes.Passed.{passed}
use Rattle.head.proofs.from_bytes.Decoding.{decode_encodable}
use Rattle.journal.specs.declared.Machine.{Machine}
use Rattle.journal.specs.Run.{begin}
use Rattle.journal.specs.Machine.{State, state_of, machine_of, none, taking, Lent}
use Rattle.call.specs.Call.{head_tests, journal_tests, answers_tests, Admits}

-- a test before the head's refuses
pub admits_refused : {ts b : List ℕ} {n : Refusal} → number n ≡ first_of ts → Admits ts b (Err n)
admits_refused {n = n} e = record { refusal_is = e; begun = tt; encodable = tt; bytes = λ z. absurd (not_0 n (e ∙ z)) }

-- they decide where the tests before them find no fault
pub admits_as : {ts us b : List ℕ} {r : Result Machine Refusal} → first_of us ≡ first_of ts → Admits ts b r → Admits us b r
admits_as e x = record { refusal_is = x.refusal_is ∙ sym e; begun = x.begun; encodable = x.encodable; bytes = λ z. x.bytes (sym e ∙ z) }

-- what an admitted call knows beside `begun` and `encodable`
module _ {ts b : List ℕ} {m : Machine} (x : Admits ts b (Ok m)) where
  pub tests_passed : first_of ts ≡ 0
  tests_passed = sym x.refusal_is

  pub call_bytes : length b ≡ buffer_bytes
  call_bytes = x.bytes tests_passed

  pub head_is : m.head ≡ head_of b
  head_is = ap (λ (w : State). w.head) x.begun

-- the journal of a call that is admitted has 128 words, and at most 4,096 answers are lent: so much is lent to what it runs first
pub lent_journal : {b j : List ℕ} {k : ℕ} {m : Machine} → Admits (journal_tests b j) b (Ok m) → k ≤ 128 → Lent k m j none
lent_journal {b} {j} {k} {m} x few =
    let room = ltb-false (length j) 128 (not_refused 16 (ltb (length j) 128) (none_refused (journal_tests b j) (tests_passed x)).0) in
    let at : m.at ≡ 0 = ap (λ (w : State). w.at) x.begun in
    record {
      room = omega (arith, at, few, room);
      encodable = x.encodable;
      answers = tt;
    }

pub lent_answers : {b j a : List ℕ} {k : ℕ} {m : Machine} → Admits (answers_tests b j a) b (Ok m) → k ≤ 128 → Lent k m j (taking a)
lent_answers {b} {j} {a} {k} {m} x few =
    let None-found = none_refused (answers_tests b j a) (tests_passed x) in
    let room = ltb-false (length j) 128 (not_refused 16 (ltb (length j) 128) None-found.0) in
    let most = ltb-false 4096 (length a) (not_refused 17 (ltb 4096 (length a)) None-found.1.0) in
    let at : m.at ≡ 0 = ap (λ (w : State). w.at) x.begun in
    let taken : m.taken ≡ 0 = ap (λ (w : State). w.taken) x.begun in
    record {
      room = omega (arith, at, few, room);
      encodable = x.encodable;
      answers = (omega (arith, taken), most);
    }
