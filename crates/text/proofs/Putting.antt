-- Parts of a text, put one after the other.
use Prim.Native.Nat.{ℕ, ◌≤◌}
use mathlib.Core.Path.{refl}
use mathlib.Core.List.{List, [], ◌++◌, append_assoc, append-nil}
use native.Mathlib.Omega.{arith}
use lib.ListN.{length}
use Rattle.text.specs.Text.{Puts}

pub puts_none : (t : List ℕ) (at : ℕ) → at ≤ length t → Puts [] t at t at
puts_none t at h = record { from = omega arith; within = h; same = refl; put = λ _. rw append-nil }

pub puts_then : {a b t t' t'' : List ℕ} {at m end : ℕ} → Puts a t at t' m → Puts b t' m t'' end → Puts (a ++ b) t at t'' end
puts_then p q = record {
  from = omega arith;
  within = omega arith;
  same = omega arith;
  put = λ h. rw (q.put (omega arith), p.put (omega arith), append_assoc);
}
