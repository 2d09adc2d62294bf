-- Laws of `is_within` on parts of a record.
use Prim.Native.Nat.{ℕ, zero, suc, ◌+◌, ◌*◌, ◌<◌}
use mathlib.Core.Path.{◌≡◌, refl, ◌∙◌}
use mathlib.Core.Bool.{Bool, true, ◌&&◌, false≢true}
use mathlib.Core.List.{List, [], ◌∷◌, ◌++◌, append_assoc}
use native.Mathlib.Omega.{arith}
use native.Mathlib.Nat.{mul-zero, mul-suc, add_comm}
use lib.Dec.{leb}
use lib.ListN.{length, get_or, take, drop}
use lib.Seq.{drop-drop}
use Rattle.record.specs.Bytes.{is_within}
use Rattle.record.proofs.Bytes.{and_left, and_right}
use Rattle.record.specs.Items.{joined}

and_both : (a b : Bool) → a ≡ true → b ≡ true → (a && b) ≡ true
and_both a b p q = rw (p, q)

within_drop : (n : ℕ) (xs ms : List ℕ) → is_within xs ms ≡ true → is_within (drop n xs) (drop n ms) ≡ true
unfolding is_within
within_drop zero xs ms e = e
within_drop (suc n) [] [] e = e
within_drop (suc n) [] (m ∷ ms) e = absurd (false≢true e)
within_drop (suc n) (x ∷ xs) [] e = absurd (false≢true e)
within_drop (suc n) (x ∷ xs) (m ∷ ms) e = within_drop n xs ms (and_right (leb x m) (is_within xs ms) e)

within_take : (n : ℕ) (xs ms : List ℕ) → is_within xs ms ≡ true → is_within (take n xs) (take n ms) ≡ true
unfolding is_within
within_take zero xs ms e = refl
within_take (suc n) [] [] e = e
within_take (suc n) [] (m ∷ ms) e = absurd (false≢true e)
within_take (suc n) (x ∷ xs) [] e = absurd (false≢true e)
within_take (suc n) (x ∷ xs) (m ∷ ms) e =
    and_both (leb x m) (is_within (take n xs) (take n ms)) (and_left (leb x m) (is_within xs ms) e) (within_take n xs ms (and_right (leb x m) (is_within xs ms) e))

-- a part of bytes within their largest values is within the same part of these
pub within_part : (at n : ℕ) (xs ms : List ℕ) → is_within xs ms ≡ true → is_within (take n (drop at xs)) (take n (drop at ms)) ≡ true
within_part at n xs ms e = within_take n (drop at xs) (drop at ms) (within_drop at xs ms e)

-- two parts within theirs are so together
pub within_append : (n : ℕ) (xs ys ms : List ℕ) → length xs ≡ n → is_within xs (take n ms) ≡ true → is_within ys (drop n ms) ≡ true → is_within (xs ++ ys) ms ≡ true
unfolding is_within
within_append zero [] ys ms l e f = f
within_append (suc n) [] ys ms l e f = absurd (omega arith)
within_append zero (x ∷ xs) ys ms l e f = absurd (omega arith)
within_append (suc n) (x ∷ xs) ys [] l e f = absurd (false≢true e)
within_append (suc n) (x ∷ xs) ys (m ∷ ms) l e f =
    and_both (leb x m) (is_within (xs ++ ys) ms) (and_left (leb x m) (is_within xs (take n ms)) e) (within_append n xs ys ms (omega arith) (and_right (leb x m) (is_within xs (take n ms)) e) f)

-- items that are each within their part are so together
pub within_joined : {A : Type 0} (g : A → List ℕ) (size : ℕ) → ((x : A) → length (g x) ≡ size) → (d : A) (xs : List A) (ys ms : List ℕ) →
    ((k : ℕ) → k < length xs → is_within (g (get_or xs k d)) (take size (drop (size * k) ms)) ≡ true) →
    is_within ys (drop (size * length xs) ms) ≡ true → is_within (joined g xs ++ ys) ms ≡ true
unfolding joined
within_joined g size sized d [] ys ms each e = rw mul-zero at e
within_joined g size sized d (x ∷ xs) ys ms each e =
    let next : (k : ℕ) → size * suc k ≡ size + size * k = λ k. mul-suc size k ∙ add_comm (size * k) size in
    let first = rw mul-zero at (each 0 (omega arith)) in
    let later : (k : ℕ) → k < length xs → is_within (g (get_or xs k d)) (take size (drop (size * k) (drop size ms))) ≡ true =
    λ k h. rw (drop-drop (size * k) size ms, ← next k) (each (suc k) (omega arith)) in
    let end : is_within ys (drop (size * length xs) (drop size ms)) ≡ true = rw (drop-drop (size * length xs) size ms, ← next (length xs)) e in
    rw append_assoc (within_append size (g x) (joined g xs ++ ys) ms (sized x) first (within_joined g size sized d xs ys (drop size ms) later end))
