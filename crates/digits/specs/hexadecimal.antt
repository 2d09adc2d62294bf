-- Bytes and words in upper-case hexadecimal.
use Rattle.std.specs.Prelude.{ℕ, zero, suc, ◌+◌, ◌-◌, ◌*◌, ◌/◌, ◌%◌, cond, ◌&&◌, List, [], ◌∷◌, ◌++◌, ltb, leb, Option, None, Some}

-- the value of a digit, `0` to `9` and `A` to `F`, and none for any other byte
abbrev pub digit_of : ℕ → Option ℕ
digit_of b = cond (leb 48 b && leb b 57) (Some (b - 48)) (cond (leb 65 b && leb b 70) (Some (b - 65 + 10)) None)

-- the ASCII code of a digit below 16: `0` to `9`, then `A` to `F`
abbrev pub glyph_of : ℕ → ℕ
glyph_of d = cond (ltb d 10) (48 + d) (65 + (d - 10))

-- the last `k` digits of `n`, the most significant first
unfoldable pub hex_digits : ℕ → ℕ → List ℕ
hex_digits zero n = []
hex_digits (suc k) n = hex_digits k (n / 16) ++ (glyph_of (n % 16) ∷ [])

-- the byte of two digits, where both are
abbrev pub byte_of : Option ℕ → Option ℕ → Option ℕ
byte_of None low = None
byte_of (Some high) None = None
byte_of (Some high) (Some low) = Some (high * 16 + low)

-- two digits are a byte, the high one first; anything else is none
abbrev pub pair_of : ℕ → ℕ → Option ℕ
pair_of high low = byte_of (digit_of high) (digit_of low)
