-- Words of three bytes.
use Rattle.std.specs.Prelude.{ℕ, ◌+◌, ◌*◌, ◌/◌, ◌%◌, List, [], ◌∷◌, get_or}

-- "registers 1 to 34, three bytes a, b, c each": the 24-bit value of a register
abbrev pub word_of : ℕ → ℕ → ℕ → ℕ
word_of a b c = a * 65536 + (b * 256 + c)

-- its bytes a, b and c
abbrev pub byte_a : ℕ → ℕ
byte_a w = w / 65536 % 256

abbrev pub byte_b : ℕ → ℕ
byte_b w = w / 256 % 256

abbrev pub byte_c : ℕ → ℕ
byte_c w = w % 256

-- a word's bytes in their order, and the word at the front of bytes
unfoldable pub word_bytes : ℕ → List ℕ
word_bytes w = byte_a w ∷ byte_b w ∷ byte_c w ∷ []

unfoldable pub word_in : List ℕ → ℕ
word_in b = word_of (get_or b 0 0) (get_or b 1 0) (get_or b 2 0)
