-- Laws of DLL and divider arithmetic.
use Prim.Native.Nat.{ℕ, zero, ◌/◌, ◌^◌, ◌≤◌, ◌<◌}
use mathlib.Core.Path.{◌≡◌, refl}
use mathlib.Core.Bool.{Bool, true, false, cond}
use native.Mathlib.Omega.{arith}
use native.Mathlib.Nat.{div-le_self, div-mul-le_self, le-div_iff_mul-le, le_trans, mul-le-mul_left, pos_of_ne-zero}
use lib.Pow.{pow_mono, pow_pos}
use borrow.Author.Tests.{eqb-false}
use lib.Dec.{eqb}
use Rattle.clock.specs.Clock.{dll_hz, divided, shifted}

-- a DLL gives 12 to 384 MHz
pub dll_least : (stage : ℕ) (half : Bool) → 12000000 ≤ dll_hz stage half
unfolding dll_hz
dll_least stage true = omega arith
dll_least stage false = omega arith

pub dll_most : (stage : ℕ) (half : Bool) → stage ≤ 15 → dll_hz stage half ≤ 384000000
unfolding dll_hz
dll_most stage true h = omega arith
dll_most stage false h = omega arith

-- a divider gives no more than it gets
pub divided_most : (f d : ℕ) → divided f d ≤ f
unfolding divided
divided_most f d = by (eqb d 0)
  where
    by : (t : Bool) → cond t f (f / d) ≤ f
    by true = omega arith
    by false = div-le_self f d

-- what is divided by at most `m` leaves at least that part
quotient_least : (m n f d : ℕ) → d ≤ m → n ≤ f → zero < d → n / m ≤ f / d
quotient_least m n f d p q l =
    (le-div_iff_mul-le l).1 (le_trans (mul-le-mul_left (n / m) p) (le_trans (div-mul-le_self n m) q))

-- so of a divider of at most 255, and of a prescaler of at most 7
pub divided_least : (n f d : ℕ) → d ≤ 255 → n ≤ f → n / 255 ≤ divided f d
unfolding divided
divided_least n f d p q = by (eqb d 0) refl
  where
    by : (t : Bool) → eqb d 0 ≡ t → n / 255 ≤ cond t f (f / d)
    by true e = omega arith
    by false e = quotient_least 255 n f d p q (pos_of_ne-zero (eqb-false d 0 e))

pub shifted_least : (n f e : ℕ) → e ≤ 7 → n ≤ f → n / 128 ≤ shifted f e
unfolding shifted
shifted_least n f e p q = quotient_least 128 n f (2 ^ e) (pow_mono p) q (pow_pos e)
