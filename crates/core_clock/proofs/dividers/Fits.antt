-- What a legal plan stores in the registers of the core's select and dividers fits them.
use Prim.Native.Nat.{ℕ, zero, suc, ◌≤◌}
use mathlib.Core.Path.{◌≡◌, refl}
use mathlib.Core.Bool.{true}
use native.Mathlib.Omega.{arith}
use lib.ListN.{drop}
use borrow.Author.Tests.{le-leb}
use Rattle.record.specs.Bytes.{is_within}
use Rattle.record.proofs.Bytes.{within_at}
use Rattle.plan.specs.declared.Plan.{Plan}
use Rattle.plan.specs.Code as plan
use Rattle.plan.specs.Plan.{encoded, legal}
use Rattle.register.specs.Word.{word_of, word_bytes}
use Rattle.register.specs.Codes.{largest, fits_register}
use Rattle.register.proofs.Fits.{word_fits}

pub dividers_fit : (p : Plan) → legal p ≡ true → fits_register 2 (word_of p.hdiv p.pdiv1 p.pdiv2) ≡ true
unfolding legal encoded is_within largest
dividers_fit p e =
    let at = within_at (drop 3 (encoded p)) plan.largest_of_plan e in
    word_fits 2 p.hdiv p.pdiv1 p.pdiv2 (simp (le-leb _ 255 (at 1), le-leb _ 7 (at 2), le-leb _ 7 (at 3)))

pub select_fits : (v : ℕ) → v ≤ 3 → fits_register 1 v ≡ true
unfolding fits_register is_within word_bytes largest
select_fits zero h = refl
select_fits (suc zero) h = refl
select_fits (suc (suc zero)) h = refl
select_fits (suc (suc (suc zero))) h = refl
select_fits (suc (suc (suc (suc v)))) h = absurd (omega arith)

pub sys_fits : (p : Plan) → legal p ≡ true → fits_register 1 p.sys ≡ true
unfolding legal encoded
sys_fits p e = select_fits p.sys (within_at (drop 3 (encoded p)) plan.largest_of_plan e 0)
