-- What a booking, a release and a look-up leave: their entries, which are none, lie in any journal.
use Prim.Native.Nat.{ℕ, ◌≤◌}
use mathlib.Core.Path.{◌≡◌, refl}
use mathlib.Core.Bool.{Bool, true, false, cond}
use mathlib.Core.List.{List, [], ◌++◌}
use native.Mathlib.Omega.{arith}
use lib.Dec.{eqb}
use lib.ListN.{length}
use Rattle.head.specs.declared.Head.{Head}
use Rattle.head.specs.Record.{head_of}
use Rattle.journal.specs.Run.{begin}
use Rattle.record.specs.Refusals.{first_of}
use Rattle.call.specs.Call.{head_tests, head_call, performed, finished, refused, changing_head}
use Rattle.booking.specs.Booking.{book}
use Rattle.booking.specs.Release.{release}
use Rattle.booking.specs.LookUp.{look_up_call}
use Rattle.recorded_call.specs.declared.tasks.Call.{Call}
use Rattle.recorded_call.specs.declared.tasks.Call.TheVariants.{Book, Release, LookUp}
use Rattle.recorded_call.specs.tasks.{result_of, beside}

by_cases : (t : Bool) (refusal : ℕ) (f : Head → Head) (b : List ℕ) →
    (cond t (finished (changing_head f (begin (head_of b))) 0 b []) (refused refusal b [])).entries ≡ 0
by_cases true refusal f b = refl
by_cases false refusal f b = refl

head_within : (tests : List ℕ) (f : Head → Head) (b j : List ℕ) → (head_call tests f b).entries ≤ length j
unfolding performed
head_within tests f b j =
    let refusal = first_of (head_tests b ++ tests) in
    omega (arith, by_cases (eqb refusal 0) refusal f b)

pub result_within : (call : Call) (x b j a : List ℕ) → (beside j (result_of call x b)).entries ≤ length (beside j (result_of call x b)).journal
unfolding book release look_up_call
result_within Book x b j a = head_within _ _ b j
result_within Release x b j a = head_within _ _ b j
result_within LookUp x b j a = omega arith
