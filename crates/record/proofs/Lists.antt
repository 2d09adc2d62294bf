-- A list as its elements by place.
use Prim.Native.Nat.{ℕ, zero, suc, ◌+◌, ◌≤◌, ◌<◌}
use mathlib.Core.Path.{◌≡◌, refl, ap, ◌∙◌}
use mathlib.Core.List.{List, [], ◌∷◌}
use native.Mathlib.Omega.{arith}
use lib.ListN.{length, get_or, take, drop, length-drop}
use lib.Seq.{get_or-drop, get_or-take, length-take-le}

-- f 0, f 1, .., n of them
abbrev pub tabulate : ℕ → (ℕ → ℕ) → List ℕ
tabulate zero f = []
tabulate (suc n) f = f 0 ∷ tabulate n (λ (k : ℕ). f (suc k))

spread : (xs : List ℕ) → xs ≡ tabulate (length xs) (λ (k : ℕ). get_or xs k 0)
spread [] = refl
spread (x ∷ xs) = ap (λ (l : List ℕ). x ∷ l) (spread xs)

-- a list of n is its elements at 0 to n - 1
pub by_place : (xs : List ℕ) (n : ℕ) → length xs ≡ n → xs ≡ tabulate n (λ (k : ℕ). get_or xs k 0)
by_place xs n e = spread xs ∙ ap (λ (m : ℕ). tabulate m (λ (k : ℕ). get_or xs k 0)) e

-- the same elements at the same places
tabulate_same : (n : ℕ) (f g : ℕ → ℕ) → ((k : ℕ) → k < n → f k ≡ g k) → tabulate n f ≡ tabulate n g
tabulate_same zero f g same = refl
tabulate_same (suc n) f g same =
    rw (same 0 (omega arith), tabulate_same n (λ (k : ℕ). f (suc k)) (λ (k : ℕ). g (suc k)) (λ k h. same (suc k) (omega arith)))

-- so a part of a list is its elements from its place on
pub part_by_place : (xs : List ℕ) (at n : ℕ) → at + n ≤ length xs → take n (drop at xs) ≡ tabulate n (λ (k : ℕ). get_or xs (at + k) 0)
part_by_place xs at n h =
    by_place (take n (drop at xs)) n (length-take-le n (drop at xs) (rw length-drop (omega arith)))
    ∙ tabulate_same n (λ (k : ℕ). get_or (take n (drop at xs)) k 0) (λ (k : ℕ). get_or xs (at + k) 0) (λ k l. get_or-take n (drop at xs) k 0 l ∙ get_or-drop at xs k 0)
