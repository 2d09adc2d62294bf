-- A head is fit just where no clause fails.
use Prim.Native.Nat.{ℕ, suc}
use mathlib.Core.Path.{◌≡◌, refl}
use mathlib.Core.Bool.{Bool, true, false, not, ◌&&◌, ◌||◌}
use mathlib.Core.List.{List, [], ◌∷◌}
use native.Mathlib.Omega.{arith}
use lib.Dec.{eqb, leb}
use borrow.Author.Tests.{ne_eqb}
use Rattle.std.specs.Prelude.{Option, Some, None, Result, Ok, Err}
use Rattle.std.specs.Result.{is_ok}
use Rattle.time.specs.declared.Hertz.{Hertz}
use Rattle.record.specs.Refusals.{refuse, first_of}
use Rattle.register.specs.Word.{byte_b, byte_c}
use Rattle.register.specs.Numbers.{DLL1, DLL2, FLASH, LPSYS_SUPPLY}
use Rattle.head.specs.declared.Head.{Head}
use Rattle.clock_read.specs.Hpsys.{reg, hclk_of}
use Rattle.clock_read.specs.lpsys.{lpsys_hclk_of}
use Rattle.fit.specs.rail.{rail_limit}
use Rattle.fit.specs.Fit.{within, source_is_on, lpsys_fit, fits}
use Rattle.fit.specs.declared.Clause.{Clause}
use Rattle.fit.specs.declared.Clause.TheVariants.{HclkUnreadable, HclkAboveRail, Mpi1DllOff, Mpi2DllOff, LpsysHclkUnreadable, LpsysHclkAboveSupply}
use Rattle.fit.specs.Unfit.{clause_of, unread, lpsys_clauses, unfit_for}

-- a clause, then the rest
holds : (n : ℕ) (b : Bool) (ns : List ℕ) (rest : Bool) → eqb (first_of ns) 0 ≡ rest → eqb (first_of (refuse (suc n) (not b) ∷ ns)) 0 ≡ b && rest
unfolding first_of
holds n true ns rest e = e
holds n false ns rest e =
    let refused = ne_eqb (suc n) 0 (λ q. omega (arith, q)) in
    rw refused refused

clock : (x : Option Hertz) (limit : ℕ) (ns : List ℕ) (rest : Bool) → eqb (first_of ns) 0 ≡ rest →
    eqb (first_of (refuse 1 (unread x) ∷ refuse 2 (not (within x limit)) ∷ ns)) 0 ≡ within x limit && rest
unfolding first_of
clock (Some f) limit ns rest e = holds 1 (leb f.0 limit) ns rest e
clock None limit ns rest e = refl

last : (b : Bool) → eqb (first_of (refuse 6 (not b) ∷ [])) 0 ≡ b
unfolding first_of
last true = refl
last false = refl

lpsys : (x : Option Hertz) (supply : ℕ) → eqb (first_of (lpsys_clauses x supply)) 0 ≡ lpsys_fit x supply
unfolding first_of
lpsys (Some f) supply = last (leb f.0 24000000 || eqb supply 1)
lpsys None supply = refl

-- a test passes just where it names no clause
pub ok_is : {A : Type 0} (r : Result A Clause) → is_ok r ≡ eqb (clause_of r) 0
ok_is (Ok x) = refl
ok_is (Err HclkUnreadable) = refl
ok_is (Err HclkAboveRail) = refl
ok_is (Err Mpi1DllOff) = refl
ok_is (Err Mpi2DllOff) = refl
ok_is (Err LpsysHclkUnreadable) = refl
ok_is (Err LpsysHclkAboveSupply) = refl

pub fit_unless : (h : Head) → eqb (unfit_for h) 0 ≡ fits h
unfolding unfit_for fits
fit_unless h =
    clock (hclk_of h) (rail_limit h) _ _
    (holds 2 (source_is_on (byte_b (reg h FLASH)) (reg h DLL1) (reg h DLL2)) _ _
    (holds 3 (source_is_on (byte_c (reg h FLASH)) (reg h DLL1) (reg h DLL2)) _ _
    (lpsys (lpsys_hclk_of h) (reg h LPSYS_SUPPLY))))
