-- "a request in decimal (otherwise 0)".
use Rattle.std.specs.Prelude.{ℕ, ◌+◌, ◌*◌, ◌-◌, min, Bool, true, cond, ◌&&◌, List, [], ◌∷◌, leb, Option, None, Some}

-- the largest request that 32 bits hold
abbrev pub most : ℕ
most = 4294967295

-- a byte is one of `0` to `9`
abbrev pub is_digit : ℕ → Bool
is_digit b = leb 48 b && leb b 57

unfoldable pub all_digits : List ℕ → Bool
all_digits [] = true
all_digits (b ∷ s) = is_digit b && all_digits s

-- the number that digits spell after those of `n`, the most significant first
unfoldable pub spelled : ℕ → List ℕ → ℕ
spelled n [] = n
spelled n (b ∷ s) = spelled (n * 10 + (b - 48)) s

-- the number that a text of digits spells, and 0 for a text that is empty or has another byte
abbrev pub spelled_by : List ℕ → ℕ
spelled_by s = cond (all_digits s) (spelled 0 s) 0

-- the request of a text: its number, or the largest where that does not fit 32 bits
unfoldable pub request_of : List ℕ → ℕ
request_of s = min (spelled_by s) most

-- the number `n` with the digit `b` after it, or the largest where that does not fit
abbrev pub longer : ℕ → ℕ → ℕ
longer n b = min (n * 10 + (b - 48)) most

-- the request that a text spells, and none where it is empty or has another byte: 0 stands for that in `request_of`
unfoldable pub number_in : List ℕ → Option ℕ
number_in [] = None
number_in (b ∷ s) = cond (all_digits (b ∷ s)) (Some (request_of (b ∷ s))) None
