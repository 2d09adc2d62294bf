-- Items of the same size, one after the other.
use Rattle.std.specs.Prelude.{ℕ, zero, suc, ◌+◌, List, [], ◌∷◌, ◌++◌, length, take, drop}

-- `n` items of `size` bytes each, every one read by `f` from the bytes at its place
unfoldable pub items : {A : Type 0} → (List ℕ → A) → ℕ → ℕ → List ℕ → List A
items f size zero b = []
items f size (suc n) b = f b ∷ items f size n (drop size b)

-- the bytes of each item, written by `g`
unfoldable pub joined : {A : Type 0} → (A → List ℕ) → List A → List ℕ
joined g [] = []
joined g (x ∷ xs) = g x ++ joined g xs

-- the bytes `b` with `part` written over them from place `at` on
unfoldable pub laid : ℕ → List ℕ → List ℕ → List ℕ
laid at part b = take at b ++ (part ++ drop (at + length part) b)
