-- Two waits in turn over one list of answers: both end exactly where two of the answers are ready.
use Prim.Native.Nat.{ℕ, ◌+◌, ◌≤◌}
use mathlib.Core.Path.{◌≡◌, refl, ap, sym, ◌∙◌}
use mathlib.Core.Bool.{Bool, true, false, cond}
use mathlib.Core.List.{List, [], ◌∷◌}
use native.Mathlib.Omega.{arith}
use native.Mathlib.Numerals.{add-one}
use lib.Dec.{eqb}
use lib.ListN.{length, drop, length-drop}
use Rattle.journal.specs.Run.{Poll, ready_after, never_ready, more, poll}
use Rattle.claim.specs.Moment.{one_ready, two_ready, stop_for_wake}
use Rattle.claim.proofs.changes.Progress.{stop_of}
use Rattle.claim.proofs.changes.Core.{polled}
use Rattle.claim.proofs.Counts.{taken_most}

-- what the second wait ends with, where polling for the first found `q`
abbrev second_stop : List ℕ → Poll → ℕ
second_stop a (ready_after n) = stop_of (poll (drop n a))
second_stop a never_ready = 36

both_polled : (a : List ℕ) → second_stop a (poll a) ≡ stop_for_wake a
unfolding poll one_ready two_ready
both_polled [] = refl
both_polled (x ∷ a) = by (eqb x 0) (poll a) (both_polled a)
  where
    by : (t : Bool) (q : Poll) → second_stop a q ≡ stop_for_wake a → second_stop (x ∷ a) (cond t (more q) (ready_after 1)) ≡ cond (cond t (two_ready a) (one_ready a)) 0 36
    by true (ready_after n) e = rw (add-one n) e
    by true never_ready e = e
    by false q e = polled a

module _ (a : List ℕ) where
  pub stops_first : poll a ≡ never_ready → stop_for_wake a ≡ 36
  stops_first e = sym (both_polled a) ∙ ap (second_stop a) e

  pub stops_second : (n : ℕ) (q : Poll) → poll a ≡ ready_after n → poll (drop n a) ≡ q → stop_for_wake a ≡ stop_of q
  stops_second n q e f = sym (both_polled a) ∙ (ap (second_stop a) e ∙ ap stop_of f)

-- and no more answers are taken than are lent
pub taken_first : (a : List ℕ) (n : ℕ) → poll a ≡ ready_after n → n ≤ length a
taken_first a n e = rw e at (taken_most a)

pub taken_second : (a : List ℕ) (n m : ℕ) → poll a ≡ ready_after n → poll (drop n a) ≡ ready_after m → n + m ≤ length a
taken_second a n m e f = omega (arith, taken_first a n e, simp length-drop at (taken_first (drop n a) m f))
