-- A number of four bytes is read from its bytes as it was written.
use Prim.Native.Nat.{ℕ, ◌/◌, ◌%◌, ◌≤◌, ◌<◌}
use mathlib.Core.Path.{◌≡◌}
use mathlib.Core.List.{List, [], ◌∷◌, ◌++◌}
use native.Mathlib.Omega.{arith}
use native.Mathlib.Nat.{div-div-eq-div-mul}
use lib.ListN.{length, get_or, take}
use Rattle.record.specs.Bytes.{Bytes}
use Rattle.record.specs.Four.{four_of, four_bytes, four_in}

pub four_of_bytes : (n : ℕ) (rest : List ℕ) → n < 4294967296 → four_in (four_bytes n ++ rest) ≡ n
unfolding four_in four_bytes
four_of_bytes n rest h = rw (← div-div-eq-div-mul n 65536 256, ← div-div-eq-div-mul n 256 256) (omega arith)

pub bytes_of_four : (b : List ℕ) → 4 ≤ length b → Bytes b → four_bytes (four_in b) ≡ take 4 b
unfolding four_in four_bytes
bytes_of_four [] h bytes = absurd (omega arith)
bytes_of_four (x ∷ []) h bytes = absurd (omega arith)
bytes_of_four (x ∷ y ∷ []) h bytes = absurd (omega arith)
bytes_of_four (x ∷ y ∷ z ∷ []) h bytes = absurd (omega arith)
bytes_of_four (x ∷ y ∷ z ∷ w ∷ b) h bytes =
    let p = bytes 0 in
    let q = bytes 1 in
    let r = bytes 2 in
    let s = bytes 3 in
    let a : four_of x y z w / 16777216 % 256 ≡ x = omega arith in
    let b : four_of x y z w / 65536 % 256 ≡ y = omega arith in
    let c : four_of x y z w / 256 % 256 ≡ z = omega arith in
    let d : four_of x y z w % 256 ≡ w = omega arith in
    rw (a, b, c, d)

-- it is read from its own bytes only
pub four_same : (b d : List ℕ) → ((i : ℕ) → i < 4 → get_or b i 0 ≡ get_or d i 0) → four_in b ≡ four_in d
unfolding four_in
four_same b d agree = rw (agree 0 (omega arith), agree 1 (omega arith), agree 2 (omega arith), agree 3 (omega arith))

-- what is read from bytes fits four of them
pub four_in_32 : (b : List ℕ) → Bytes b → four_in b < 4294967296
unfolding four_in
four_in_32 b bytes = omega (arith, bytes 0, bytes 1, bytes 2, bytes 3)
