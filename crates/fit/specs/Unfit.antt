-- What makes a head unfit.
use Rattle.std.specs.Prelude.{ℕ, Bool, true, false, not, List, [], ◌∷◌, Option, Some, None, Result, Ok, Err}
use Rattle.time.specs.declared.Hertz.{Hertz}
use Rattle.record.specs.Refusals.{refuse, first_of}
use Rattle.register.specs.Word.{byte_b, byte_c}
use Rattle.register.specs.Numbers.{DLL1, DLL2, FLASH, LPSYS_SUPPLY}
use Rattle.head.specs.declared.Head.{Head}
use Rattle.clock_read.specs.Hpsys.{reg, hclk_of}
use Rattle.clock_read.specs.lpsys.{lpsys_hclk_of}
use Rattle.fit.specs.declared.Clause.{Clause}
use Rattle.fit.specs.declared.Clause.TheVariants.{HclkUnreadable, HclkAboveRail, Mpi1DllOff, Mpi2DllOff, LpsysHclkUnreadable, LpsysHclkAboveSupply}
use Rattle.fit.specs.rail.{rail_limit}
use Rattle.fit.specs.Fit.{within, source_is_on, lpsys_fit}

-- the number of each clause of a fit head
abbrev pub clause_number : Clause → ℕ
clause_number HclkUnreadable = 1
clause_number HclkAboveRail = 2
clause_number Mpi1DllOff = 3
clause_number Mpi2DllOff = 4
clause_number LpsysHclkUnreadable = 5
clause_number LpsysHclkAboveSupply = 6

-- the number of the clause that does not hold, 0 where all do
abbrev pub clause_of : {A : Type 0} → Result A Clause → ℕ
clause_of (Ok x) = 0
clause_of (Err u) = clause_number u

-- a clock does not read
abbrev pub unread : Option Hertz → Bool
unread (Some f) = false
unread None = true

-- "the LPSYS source is ready" is 5, "LPSYS HCLK above 24 MHz has supply S" is 6
abbrev pub lpsys_clauses : Option Hertz → ℕ → List ℕ
lpsys_clauses hclk supply = refuse 5 (unread hclk) ∷ refuse 6 (not (lpsys_fit hclk supply)) ∷ []

-- the first clause that does not hold, 0 where all do: "A head is fit when HCLK reads" is 1, "is at most the rail limit" 2, "no flash
-- select names a DLL that is off" 3 of the first select and 4 of the second, and those of LPSYS
unfoldable pub unfit_for : Head → ℕ
unfit_for h =
    first_of
    (refuse 1 (unread (hclk_of h)) ∷
    refuse 2 (not (within (hclk_of h) (rail_limit h))) ∷
    refuse 3 (not (source_is_on (byte_b (reg h FLASH)) (reg h DLL1) (reg h DLL2))) ∷
    refuse 4 (not (source_is_on (byte_c (reg h FLASH)) (reg h DLL1) (reg h DLL2))) ∷
    lpsys_clauses (lpsys_hclk_of h) (reg h LPSYS_SUPPLY))
