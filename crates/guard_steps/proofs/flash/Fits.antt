-- Flash selects moved away from DLL1 fit their register.
use Prim.Native.Nat.{ℕ, ◌≤◌}
use mathlib.Core.Path.{◌≡◌}
use mathlib.Core.Bool.{Bool, true, false, cond}
use native.Mathlib.Omega.{arith}
use lib.Dec.{eqb}
use borrow.Author.Tests.{le-leb}
use Rattle.record.specs.Bytes.{is_within}
use Rattle.record.proofs.Bytes.{within_at}
use Rattle.register.specs.Word.{word_bytes, byte_b, byte_c}
use Rattle.register.specs.Codes.{codes_of, fits_register, largest}
use Rattle.register.proofs.Fits.{fits_codes, word_fits}
use Rattle.guard_steps.specs.flash.{away, moved}

away_most : (select : ℕ) → select ≤ 3 → away select ≤ 3
away_most select h = by (eqb select 1)
  where
    by : (t : Bool) → cond t 0 select ≤ 3
    by true = omega arith
    by false = h

pub moved_fits : (w : ℕ) → fits_register 5 w ≡ true → fits_register 5 (moved w) ≡ true
unfolding is_within largest word_bytes
moved_fits w e =
    let at = within_at (word_bytes w) (codes_of 5) (fits_codes 5 w e) in
    word_fits 5 0 (away (byte_b w)) (away (byte_c w)) (simp (le-leb _ 3 (away_most (byte_b w) (at 1)), le-leb _ 3 (away_most (byte_c w) (at 2))))
