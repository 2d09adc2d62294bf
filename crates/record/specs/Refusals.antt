-- Refusals in their order: document 01 lists tests, and the first that fails gives the number.
use Rattle.std.specs.Prelude.{ℕ, List, [], ◌∷◌, Bool, cond, eqb}

-- the refusal `n` where the test `b` finds its fault, else 0 for none
abbrev pub refuse : ℕ → Bool → ℕ
refuse n b = cond b n 0

-- the first refusal of a list, 0 where there is none
unfoldable pub first_of : List ℕ → ℕ
first_of [] = 0
first_of (n ∷ ns) = cond (eqb n 0) (first_of ns) n
