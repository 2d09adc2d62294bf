-- Laws of `is_within`.
use Prim.Native.Nat.{ℕ, zero, suc, ◌-◌, ◌≤◌}
use mathlib.Core.Path.{◌≡◌, refl, ap, sym}
use mathlib.Core.Bool.{Bool, true, false, ◌&&◌, ◌||◌, false≢true}
use Rattle.std.proofs.Math.Bool.{and-false}
use mathlib.Core.List.{List, [], ◌∷◌}
use native.Mathlib.Omega.{arith}
use lib.Dec.{leb}
use Rattle.std.specs.List.{fold, zip}
use lib.ListN.{length, get_or, take, drop, length-drop}
use lib.Seq.{take_all}
use borrow.Author.Tests.{leb-true}
use Rattle.record.specs.Bytes.{is_within}

-- both sides of a conjunction that holds
pub and_left : (a b : Bool) → (a && b) ≡ true → a ≡ true
and_left true b e = refl
and_left false b e = e

pub and_right : (a b : Bool) → (a && b) ≡ true → b ≡ true
and_right true b e = e
and_right false b e = absurd (false≢true e)

-- both sides of a disjunction that does not hold
pub or_left : (a b : Bool) → (a || b) ≡ false → a ≡ false
or_left true b e = e
or_left false b e = refl

pub or_right : (a b : Bool) → (a || b) ≡ false → b ≡ false
or_right true b e = absurd (false≢true (sym e))
or_right false b e = e

-- bytes within their largest values are each at most their own
pub within_at : (xs ms : List ℕ) → is_within xs ms ≡ true → (k : ℕ) → get_or xs k 0 ≤ get_or ms k 0
unfolding is_within
within_at [] [] e k = omega arith
within_at [] (m ∷ ms) e k = absurd (false≢true e)
within_at (x ∷ xs) [] e k = absurd (false≢true e)
within_at (x ∷ xs) (m ∷ ms) e zero = leb-true x m (and_left (leb x m) (is_within xs ms) e)
within_at (x ∷ xs) (m ∷ ms) e (suc k) = within_at xs ms (and_right (leb x m) (is_within xs ms) e) k

-- the pairs of bytes and largest values, tested in turn
pub within_fold : (all : Bool) (xs ms : List ℕ) → length xs ≡ length ms → fold (λ all p. all && leb p.0 p.1) all (zip xs ms) ≡ (all && is_within xs ms)
unfolding is_within
within_fold true [] [] e = refl
within_fold false [] [] e = refl
within_fold all [] (m ∷ ms) e = absurd (omega arith)
within_fold all (x ∷ xs) [] e = absurd (omega arith)
within_fold true (x ∷ xs) (m ∷ ms) e = within_fold (leb x m) xs ms (omega arith)
within_fold false (x ∷ xs) (m ∷ ms) e = within_fold false xs ms (omega arith)

-- bytes that are not as many as the largest values are not within them
pub within_apart : (xs ms : List ℕ) → (length xs ≡ length ms → ⊥) → is_within xs ms ≡ false
unfolding is_within
within_apart [] [] h = absurd (h refl)
within_apart [] (m ∷ ms) h = refl
within_apart (x ∷ xs) [] h = refl
within_apart (x ∷ xs) (m ∷ ms) h = rw (within_apart xs ms (λ e. h (ap suc e))) (and-false (leb x m))

-- a part from `i` to the end is what follows the first `i`
pub rest_whole : (xs : List ℕ) (i : ℕ) → take (length xs - i) (drop i xs) ≡ drop i xs
rest_whole xs i = take_all (length xs - i) (drop i xs) (simp length-drop (omega arith))
