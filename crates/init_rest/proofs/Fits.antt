-- The flash selects, the USB divider and the selects of a legal plan fit their registers.
use Prim.Native.Nat.{ℕ, ◌≤◌}
use mathlib.Core.Path.{◌≡◌, subst}
use mathlib.Core.Bool.{true}
use mathlib.Core.List.{[], ◌∷◌}
use native.Mathlib.Omega.{arith}
use lib.ListN.{drop}
use borrow.Author.Tests.{le-leb}
use Rattle.record.specs.Bytes.{is_within}
use Rattle.record.proofs.Bytes.{within_at}
use Rattle.plan.specs.declared.Plan.{Plan}
use Rattle.plan.specs.Code as plan
use Rattle.plan.specs.Plan.{encoded, legal}
use Rattle.register.specs.Numbers.{FLASH, PERI, USB_SOURCE, USB_DIVIDER, LOW_POWER}
use Rattle.register.specs.Word.{word_of}
use Rattle.register.specs.Codes.{largest, codes_of, fits_register}
use Rattle.register.proofs.Fits.{word_fits}

-- flash selects of at most 2
pub flash_fits : (x y : ℕ) → x ≤ 2 → y ≤ 2 → fits_register FLASH (word_of 0 x y) ≡ true
unfolding is_within largest
flash_fits x y p q = word_fits FLASH 0 x y (simp (le-leb x 3 (omega (arith, p)), le-leb y 3 (omega (arith, q))))

-- a value without a letter stands in the third byte
value_fits : (n v : ℕ) → is_within (0 ∷ 0 ∷ v ∷ []) (codes_of n) ≡ true → fits_register n v ≡ true
value_fits n v e =
    let same : word_of 0 0 v ≡ v = omega arith in
    subst (λ (w : ℕ). fits_register n w ≡ true) same (word_fits n 0 0 v e)

-- the USB divider
pub usb_fits : (v : ℕ) → v ≤ 7 → fits_register USB_DIVIDER v ≡ true
unfolding is_within largest
usb_fits v h = value_fits USB_DIVIDER v (simp (le-leb v 7 h))

-- the selects of a legal plan
pub source_fits : (p : Plan) → legal p ≡ true → fits_register USB_SOURCE p.usbsel ≡ true
unfolding legal encoded is_within largest
source_fits p e = value_fits USB_SOURCE p.usbsel (simp (le-leb _ 1 (within_at (drop 3 (encoded p)) plan.largest_of_plan e 13)))

pub peri_fits : (p : Plan) → legal p ≡ true → fits_register PERI p.perisel ≡ true
unfolding legal encoded is_within largest
peri_fits p e = value_fits PERI p.perisel (simp (le-leb _ 1 (within_at (drop 3 (encoded p)) plan.largest_of_plan e 14)))

pub wdt_fits : (p : Plan) → legal p ≡ true → fits_register LOW_POWER p.wdtsel ≡ true
unfolding legal encoded is_within largest
wdt_fits p e = value_fits LOW_POWER p.wdtsel (simp (le-leb _ 1 (within_at (drop 3 (encoded p)) plan.largest_of_plan e 12)))
