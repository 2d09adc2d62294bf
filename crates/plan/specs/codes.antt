-- The codes of the bytes of a plan record of document 01.
use Rattle.std.specs.Prelude.{ℕ, List, Bool, cond, ◌&&◌, ◌||◌, eqb, get_or, drop, Option, None, Some}
use Rattle.record.specs.Bytes.{is_within}
use Rattle.clock.specs.declared.Dll.{Dll}
use Rattle.plan.specs.Code.{largest_of_plan}

-- "An absent DLL has stage and half 0."
unfoldable pub dll_bytes_legal : ℕ → ℕ → ℕ → Bool
dll_bytes_legal present stage half = eqb present 1 || (eqb stage 0 && eqb half 0)

-- each of the 17 bytes within its codes
unfoldable pub coded : List ℕ → Bool
coded b =
    is_within (drop 3 b) largest_of_plan
    && dll_bytes_legal (get_or b 7 0) (get_or b 8 0) (get_or b 9 0)
    && dll_bytes_legal (get_or b 10 0) (get_or b 11 0) (get_or b 12 0)

-- a DLL's three bytes as a value
unfoldable pub dll_of : ℕ → ℕ → ℕ → Option Dll
dll_of present stage half = cond (eqb present 1) (Some (record { stage = stage; half = eqb half 1 })) None
