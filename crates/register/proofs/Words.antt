-- A word is read from its bytes as it was written.
use Prim.Native.Nat.{ℕ, ◌/◌, ◌%◌, ◌≤◌, ◌<◌}
use mathlib.Core.Path.{◌≡◌, refl}
use mathlib.Core.List.{List, [], ◌∷◌, ◌++◌}
use native.Mathlib.Omega.{arith}
use lib.ListN.{length, get_or, take}
use Rattle.layout.specs.Layout.{register_size}
use Rattle.record.specs.Bytes.{Bytes}
use Rattle.register.specs.Word.{word_of, word_bytes, word_in}

-- as many bytes as a register has
pub word_length : (w : ℕ) → length (word_bytes w) ≡ register_size
unfolding word_bytes
word_length w = refl

pub word_of_bytes : (w : ℕ) (rest : List ℕ) → w < 16777216 → word_in (word_bytes w ++ rest) ≡ w
unfolding word_in word_bytes
word_of_bytes w rest h = omega arith

pub bytes_of_word : (b : List ℕ) → register_size ≤ length b → Bytes b → word_bytes (word_in b) ≡ take register_size b
unfolding word_in word_bytes
bytes_of_word [] h bytes = absurd (omega arith)
bytes_of_word (x ∷ []) h bytes = absurd (omega arith)
bytes_of_word (x ∷ y ∷ []) h bytes = absurd (omega arith)
bytes_of_word (x ∷ y ∷ z ∷ b) h bytes =
    let p = bytes 0 in
    let q = bytes 1 in
    let r = bytes 2 in
    let a : word_of x y z / 65536 % 256 ≡ x = omega arith in
    let b : word_of x y z / 256 % 256 ≡ y = omega arith in
    let c : word_of x y z % 256 ≡ z = omega arith in
    rw (a, b, c)

-- a word is read from its own bytes only
pub word_same : (b d : List ℕ) → ((i : ℕ) → i < register_size → get_or b i 0 ≡ get_or d i 0) → word_in b ≡ word_in d
unfolding word_in
word_same b d agree = rw (agree 0 (omega arith), agree 1 (omega arith), agree 2 (omega arith))
