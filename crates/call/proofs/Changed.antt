-- A call on the head alone, from the head that the code changed to what the call leaves.
use Prim.Native.Nat.{ℕ}
use mathlib.Core.Path.{◌≡◌, refl, sym, ap, ◌∙◌}
use mathlib.Core.Bool.{Bool, true, false}
use mathlib.Core.List.{List, [], ◌++◌}
use lib.Dec.{eqb}
use lib.ListN.{length}
use borrow.Author.Tests.{eqb-true, ne_eqb}
use Rattle.std.specs.Prelude.{Ok}
use Rattle.record.specs.Refusals.{first_of}
use Rattle.record.proofs.Refusals.{none_refused, only_test, first_passes}
use Rattle.head.specs.declared.Head.{Head}
use Rattle.head.specs.Record.{buffer_bytes, head_refusal, head_of, written}
use Rattle.head.specs.Encodable.{Encodable}
use Rattle.head.proofs.from_bytes.Encoding.{decode_encode}
use Rattle.journal.specs.declared.Machine.{Machine}
use Rattle.journal.specs.Machine.{State, Ran}
use Rattle.call.specs.Call.{Answer, head_tests, performed, changing_head, head_call, Answers, Admits, Finishes}
use Rattle.call.proofs.Ending.{call_ran}

-- a call that passes its tests and ends with the head changed
module _ {ts b : List ℕ} {m : Machine} (x : Admits ts b (Ok m)) (ns : List ℕ) (f : Head → Head) where
  changes : {k : Head} → k ≡ f m.head → Ran (changing_head f) m (record m { head = k }) [] []
  changes e = record {
    does = λ r j₀ at. record {
      machine = rw e (ap (λ (w : State). record { head = f w.head; at = w.at; taken = w.taken; stop = w.stop }) at.machine);
      journal = at.journal;
    };
  }

  pub call_changed : {b' : List ℕ} {k : Head} {r : Answer} → first_of ns ≡ 0 → k ≡ f m.head → Finishes (record m { head = k }) 0 r b b' →
      Answers (performed (first_of (ts ++ ns)) (changing_head f) 0 b []) r b' []
  call_changed z e = call_ran x ns z (changes e)

-- a call on the head alone answers the first refusal of its tests; it leaves the changed head's record, or nothing changed
module _ (tests : List ℕ) (f : Head → Head) (b : List ℕ) where
  abbrev first : ℕ
  first = first_of (head_tests b ++ tests)

  pub done_buffer : first ≡ 0 → (head_call tests f b).buffer ≡ written (f (head_of b)) b
  unfolding performed
  done_buffer e = rw e

  pub refused_buffer : (first ≡ 0 → ⊥) → (head_call tests f b).buffer ≡ b
  unfolding performed
  refused_buffer e = rw (ne_eqb first 0 e)

  by_test : (t : Bool) → eqb first 0 ≡ t → (head_call tests f b).refusal ≡ first
  unfolding performed
  by_test true e = rw e (sym (eqb-true first 0 e))
  by_test false e = rw e

  pub refusal_first : (head_call tests f b).refusal ≡ first
  refusal_first = by_test (eqb first 0) refl

  -- the head's tests and the call's own are passed where it is answered done
  module _ (e : (head_call tests f b).refusal ≡ 0) where
    pub head_passed : head_refusal b ≡ 0
    head_passed = (none_refused (head_tests b ++ tests) (sym refusal_first ∙ e)).0

    pub own_passed : first_of tests ≡ 0
    own_passed = sym (first_passes (head_tests b) tests (only_test (head_refusal b) ∙ head_passed)) ∙ (sym refusal_first ∙ e)

    -- the bytes left are those of the changed head, where that has a record
    pub left_head : length b ≡ buffer_bytes → Encodable (f (head_of b)) →
        (head_refusal (head_call tests f b).buffer ≡ 0) × (head_of (head_call tests f b).buffer ≡ f (head_of b))
    left_head l ok = rw (done_buffer (sym refusal_first ∙ e)) (decode_encode (f (head_of b)) ok b l)
