-- What a setter of a divider stores fits its register.
use Prim.Native.Nat.{ℕ, ◌<◌}
use mathlib.Core.Path.{◌≡◌}
use mathlib.Core.Bool.{true}
use native.Mathlib.Omega.{arith}
use borrow.Author.Tests.{le-leb}
use Rattle.record.specs.Bytes.{is_within}
use Rattle.register.specs.Word.{word_of}
use Rattle.register.specs.Codes.{largest, fits_register}
use Rattle.register.proofs.Fits.{word_fits}
use Rattle.lpsys_tests.specs.Tests.{div_refusal}
use Rattle.lpsys_tests.proofs.Laws.{div_range}

pub div_fits : (hdiv pdiv1 pdiv2 : ℕ) → hdiv < 256 → div_refusal pdiv1 pdiv2 ≡ 0 → fits_register 26 (word_of hdiv pdiv1 pdiv2) ≡ true
unfolding is_within largest
div_fits hdiv pdiv1 pdiv2 p e =
    let both = div_range pdiv1 pdiv2 e in
    word_fits 26 hdiv pdiv1 pdiv2 (simp (le-leb hdiv 255 (omega arith), le-leb pdiv1 7 both.0, le-leb pdiv2 7 both.1))

pub mac_fits : (macdiv macfreq : ℕ) → macdiv < 256 → macfreq < 256 → fits_register 34 (word_of 0 macdiv macfreq) ≡ true
unfolding is_within largest
mac_fits macdiv macfreq p q = word_fits 34 0 macdiv macfreq (simp (le-leb macdiv 255 (omega arith), le-leb macfreq 255 (omega arith)))
