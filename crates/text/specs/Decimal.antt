-- Numbers in decimal.
use Rattle.std.specs.Prelude.{ℕ, zero, suc, ◌+◌, ◌/◌, ◌%◌, cond, List, [], ◌∷◌, ◌++◌, ltb}

-- the digits of a number, the most significant first, none in front that is 0; at most `most` of them
unfoldable pub digits_of : ℕ → ℕ → List ℕ
digits_of zero n = []
digits_of (suc most) n = cond (ltb n 10) ((48 + n) ∷ []) (digits_of most (n / 10) ++ ((48 + n % 10) ∷ []))

-- a number of 64 bits in decimal, which takes 20 digits at most
abbrev pub decimal_of : ℕ → List ℕ
decimal_of n = digits_of 20 n

-- a number after a blank
abbrev pub number_field : ℕ → List ℕ
number_field n = 32 ∷ decimal_of n
