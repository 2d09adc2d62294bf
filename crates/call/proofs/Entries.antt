-- A call's entries lie in the journal that it leaves.
use Prim.Native.Nat.{ℕ, ◌≤◌}
use mathlib.Core.Bool.{Bool, true, false, cond}
use mathlib.Core.List.{List}
use native.Mathlib.Omega.{arith}
use lib.Dec.{eqb}
use lib.ListN.{length, length-append}
use Rattle.journal.specs.Run.{Run, Effect, begin}
use Rattle.head.specs.Record.{head_of}
use Rattle.call.specs.Call.{performed, finished, refused}

by_cases : (t : Bool) (r : Run) (refusal value : ℕ) (b j : List ℕ) →
    (cond t (finished r value b j) (refused refusal b j)).entries ≤ length (cond t (finished r value b j) (refused refusal b j)).journal
by_cases true r refusal value b j = simp length-append (omega arith)
by_cases false r refusal value b j = omega arith

pub performed_within : (refusal : ℕ) (f : Effect) (value : ℕ) (b j : List ℕ) →
    (performed refusal f value b j).entries ≤ length (performed refusal f value b j).journal
unfolding performed
performed_within refusal f value b j = by_cases (eqb refusal 0) (f (begin (head_of b))) refusal value b j
