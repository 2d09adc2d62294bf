-- Which values a register may hold.
use Prim.Native.Nat.{ℕ, zero, suc, ◌+◌, ◌*◌, ◌≤◌, ◌<◌}
use mathlib.Core.Path.{◌≡◌, refl}
use mathlib.Core.Bool.{true}
use mathlib.Core.List.{List, [], ◌∷◌}
use native.Mathlib.Omega.{arith}
use native.Mathlib.Nat.{div-div-eq-div-mul}
use borrow.Author.Tests.{lt-ltb, ltb-true}
use lib.Dec.{ltb, leb-zero}
use lib.ListN.{length, get_or, drop, replicate, length-drop}
use lib.Seq.{get_or-take, get_or-drop, length-take-le}
use Rattle.layout.specs.Layout.{register_size, boot_mode_at}
use Rattle.record.specs.Bytes.{is_within}
use Rattle.record.proofs.Bytes.{and_left, and_right, within_at}
use Rattle.register.specs.Word.{word_of, word_bytes, byte_a, byte_b, byte_c}
use Rattle.register.specs.Codes.{largest, codes_of, fits_register}

repeated : (n k : ℕ) → get_or (replicate n 255) k 0 ≤ 255
repeated zero k = omega arith
repeated (suc n) zero = omega arith
repeated (suc n) (suc k) = repeated n k

-- every largest value is a byte
largest_byte : (k : ℕ) → get_or largest k 0 ≤ 255
unfolding largest is_within
largest_byte k =
    let each : is_within largest (replicate boot_mode_at 255) ≡ true = refl in
    omega (arith, within_at largest (replicate boot_mode_at 255) each k, repeated boot_mode_at k)

codes_byte : (n j : ℕ) → j < register_size → get_or (codes_of n) j 0 ≤ 255
codes_byte n j h = rw (get_or-take register_size (drop (register_size * n) largest) j 0 h, get_or-drop (register_size * n) largest j 0) (largest_byte (register_size * n + j))

-- three bytes within the codes of register `n` are a word that it may hold
pub word_fits : (n x y z : ℕ) → is_within (x ∷ y ∷ z ∷ []) (codes_of n) ≡ true → fits_register n (word_of x y z) ≡ true
unfolding fits_register word_bytes
word_fits n x y z e =
    let at : (j : ℕ) → j < 3 → get_or (x ∷ y ∷ z ∷ []) j 0 ≤ 255 = λ j h. omega (arith, within_at (x ∷ y ∷ z ∷ []) (codes_of n) e j, codes_byte n j h) in
    let p = at 0 (omega arith) in
    let q = at 1 (omega arith) in
    let r = at 2 (omega arith) in
    let a : byte_a (word_of x y z) ≡ x = omega arith in
    let b : byte_b (word_of x y z) ≡ y = omega arith in
    let c : byte_c (word_of x y z) ≡ z = omega arith in
    rw (lt-ltb (word_of x y z) 16777216 (omega arith), a, b, c) e

-- what a register holds has 24 bits, and bytes within its codes
pub fits_word : (n v : ℕ) → fits_register n v ≡ true → v < 16777216
unfolding fits_register
fits_word n v e = ltb-true v 16777216 (and_left (ltb v 16777216) (is_within (word_bytes v) (codes_of n)) e)

pub fits_codes : (n v : ℕ) → fits_register n v ≡ true → is_within (word_bytes v) (codes_of n) ≡ true
unfolding fits_register
fits_codes n v e = and_right (ltb v 16777216) (is_within (word_bytes v) (codes_of n)) e

pub codes_fit : (n v : ℕ) → v < 16777216 → is_within (word_bytes v) (codes_of n) ≡ true → fits_register n v ≡ true
unfolding fits_register
codes_fit n v h e = rw (lt-ltb v 16777216 h) e

-- number 0 holds 0 only
pub unused_zero : (v : ℕ) → fits_register 0 v ≡ true → v ≡ 0
unfolding word_bytes largest
unused_zero v e =
    let each = within_at (word_bytes v) (codes_of 0) (fits_codes 0 v e) in
    let high = rw (← div-div-eq-div-mul v 256 256) at (each 0) in
    omega (arith, fits_word 0 v e, high, each 1, each 2)

-- and 0 fits every number
zero_within : (ms : List ℕ) → length ms ≡ register_size → is_within (0 ∷ 0 ∷ 0 ∷ []) ms ≡ true
unfolding is_within
zero_within [] e = absurd (omega arith)
zero_within (x ∷ []) e = absurd (omega arith)
zero_within (x ∷ y ∷ []) e = absurd (omega arith)
zero_within (x ∷ y ∷ z ∷ []) e = rw (leb-zero x, leb-zero y, leb-zero z)
zero_within (x ∷ y ∷ z ∷ w ∷ ms) e = absurd (omega arith)

pub zero_fits : (n : ℕ) → n < 35 → fits_register n 0 ≡ true
unfolding largest
zero_fits n h = word_fits n 0 0 0 (zero_within (codes_of n) (length-take-le register_size (drop (register_size * n) largest) (rw length-drop (omega arith))))
