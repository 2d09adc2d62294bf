-- Fields of numbers in upper-case hexadecimal.
use Rattle.std.specs.Prelude.{ℕ, List, [], ◌∷◌, ◌++◌}
use Rattle.digits.specs.hexadecimal.{hex_digits}

-- `k` digits of each number, one after the other
unfoldable pub hex_of : ℕ → List ℕ → List ℕ
hex_of k [] = []
hex_of k (n ∷ ns) = hex_digits k n ++ hex_of k ns

-- a field of numbers, `-` for none
unfoldable pub hex_field : ℕ → List ℕ → List ℕ
hex_field k [] = 45 ∷ []
hex_field k (n ∷ ns) = hex_of k (n ∷ ns)

-- bytes and words, each after a blank
abbrev pub byte_field : List ℕ → List ℕ
byte_field s = 32 ∷ hex_field 2 s

abbrev pub word_field : List ℕ → List ℕ
word_field s = 32 ∷ hex_field 8 s
