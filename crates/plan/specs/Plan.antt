-- The record of a plan value, and which values have one.
use Rattle.std.specs.Prelude.{ℕ, List, [], ◌∷◌, Bool, drop}
use Rattle.record.specs.Bytes.{is_within, bit}
use Rattle.plan.specs.Code.{largest_of_plan, present_of, stage_of, half_of}
use Rattle.plan.specs.declared.Plan.{Plan}

-- the 20 bytes of a plan
unfoldable pub encoded : Plan → List ℕ
encoded p =
    0
    ∷ 18
    ∷ 1
    ∷ p.sys
    ∷ p.hdiv
    ∷ p.pdiv1
    ∷ p.pdiv2
    ∷ present_of p.dll1
    ∷ stage_of p.dll1
    ∷ half_of p.dll1
    ∷ present_of p.dll2
    ∷ stage_of p.dll2
    ∷ half_of p.dll2
    ∷ bit p.hrc48_calibrate
    ∷ bit p.usb
    ∷ p.wdtsel
    ∷ p.usbsel
    ∷ p.perisel
    ∷ p.mpi1sel
    ∷ p.mpi2sel
    ∷ []

-- a plan value whose fields lie within their codes
unfoldable pub legal : Plan → Bool
legal p = is_within (drop 3 (encoded p)) largest_of_plan
