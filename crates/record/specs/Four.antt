-- Numbers of four bytes.
use Rattle.std.specs.Prelude.{ℕ, ◌+◌, ◌*◌, ◌/◌, ◌%◌, List, [], ◌∷◌, get_or}

-- "four big-endian bytes each"
abbrev pub four_of : ℕ → ℕ → ℕ → ℕ → ℕ
four_of a b c d = a * 16777216 + (b * 65536 + (c * 256 + d))

-- a number's bytes, and the number at the front of bytes
unfoldable pub four_bytes : ℕ → List ℕ
four_bytes n = n / 16777216 % 256 ∷ n / 65536 % 256 ∷ n / 256 % 256 ∷ n % 256 ∷ []

unfoldable pub four_in : List ℕ → ℕ
four_in b = four_of (get_or b 0 0) (get_or b 1 0) (get_or b 2 0) (get_or b 3 0)
