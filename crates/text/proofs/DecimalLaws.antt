-- Numbers in decimal: what the library prints.
use Prim.Native.Nat.{ℕ, zero, suc, ◌/◌, ◌^◌, ◌<◌, ◌≤◌}
use mathlib.Core.Path.{◌≡◌, refl}
use mathlib.Core.Bool.{Bool, true, false}
use native.Mathlib.Omega.{arith}
use borrow.Author.Tests.{lt-ltb, le-ltb, leb-true, leb-false}
use lib.Dec.{leb}
use Rattle.std.specs.Fmt.{decimal}
use Rattle.std.proofs.lemmas.Fmt.{decimal_digit, decimal_step}
use Rattle.text.specs.Decimal.{digits_of, decimal_of}

one_digit : (most n : ℕ) → n < 10 → decimal n ≡ digits_of (suc most) n
unfolding digits_of
one_digit most n h = rw (decimal_digit n h, lt-ltb n 10 h)

one_more : (most n : ℕ) → 10 ≤ n → n < 2 ^ 64 → decimal (n / 10) ≡ digits_of (suc most) (n / 10) → decimal n ≡ digits_of (suc (suc most)) n
unfolding digits_of
one_more most n h w e = rw (decimal_step n h w, e, le-ltb n 10 h)

-- the digits of a number that so many hold
digits_are : (most n : ℕ) → n < 10 ^ suc most → n < 2 ^ 64 → decimal n ≡ digits_of (suc most) n
digits_are zero n h w = one_digit zero n (omega (arith, h))
digits_are (suc most) n h w = by_size (leb 10 n) refl (digits_are most (n / 10) (omega (arith, h)) (omega arith))
  where
    by_size : (t : Bool) → leb 10 n ≡ t → decimal (n / 10) ≡ digits_of (suc most) (n / 10) → decimal n ≡ digits_of (suc (suc most)) n
    by_size true e r = one_more most n (leb-true 10 n e) w r
    by_size false e r = one_digit (suc most) n (leb-false 10 n e)

pub decimal_is : (n : ℕ) → n < 2 ^ 64 → decimal n ≡ decimal_of n
decimal_is n h = digits_are 19 n (omega arith) h
