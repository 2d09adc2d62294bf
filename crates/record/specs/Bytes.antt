-- Bytes of a record.
use Rattle.std.specs.Prelude.{ℕ, ◌+◌, ◌*◌, ◌<◌, List, [], ◌∷◌, Bool, true, false, cond, ◌&&◌, leb, get_or}

-- "two-byte values high byte first"
abbrev pub two_bytes : ℕ → ℕ → ℕ
two_bytes high low = high * 256 + low

-- "Flags are 0 or 1.": a flag as a byte
abbrev pub bit : Bool → ℕ
bit on = cond on 1 0

-- as many bytes as largest values, and each byte at most the largest value at its place: refusal 3's "a byte outside its codes"
unfoldable pub is_within : List ℕ → List ℕ → Bool
is_within [] [] = true
is_within [] (m ∷ ms) = false
is_within (x ∷ xs) [] = false
is_within (x ∷ xs) (m ∷ ms) = leb x m && is_within xs ms

-- all are bytes
abbrev pub Bytes : List ℕ → Type 0
Bytes b = (i : ℕ) → get_or b i 0 < 256
