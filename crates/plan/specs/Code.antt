-- The codes of a plan's fields, as the bytes of a plan record of document 01 have them.
use Rattle.record.specs.Bytes.{bit}
use Rattle.std.specs.Prelude.{ℕ, List, [], ◌∷◌, Option, None, Some}
use Rattle.clock.specs.declared.Dll.{Dll}

-- the largest value of each of the 17 bytes: "core select (0 HRC48, 1 HXT48, 2 DBL96, 3 DLL1); hdiv; pdiv1, pdiv2 (exponents 0 to 7);
-- DLL1 present, stage 0 to 15, half; DLL2 the same; calibrate; usb; wdt (0 Lrc10, 1 Lrc32); usb source (0 core, 1 DLL2); peripheral
-- (0 HRC48, 1 HXT48); mpi1, mpi2 (0 Peri, 1 DLL1, 2 DLL2). Flags are 0 or 1."
abbrev pub largest_of_plan : List ℕ
largest_of_plan = 3 ∷ 255 ∷ 7 ∷ 7 ∷ 1 ∷ 15 ∷ 1 ∷ 1 ∷ 15 ∷ 1 ∷ 1 ∷ 1 ∷ 1 ∷ 1 ∷ 1 ∷ 2 ∷ 2 ∷ []

-- the bytes of a DLL: present, stage, half
abbrev pub present_of : Option Dll → ℕ
present_of None = 0
present_of (Some d) = 1

abbrev pub stage_of : Option Dll → ℕ
stage_of None = 0
stage_of (Some d) = d.stage

abbrev pub half_of : Option Dll → ℕ
half_of None = 0
half_of (Some d) = bit d.half
