-- An absent DLL is none.
use mathlib.Core.Path.{◌≡◌, refl}
use mathlib.Core.Bool.{Bool, true, false, not}
use Rattle.std.specs.Prelude.{Option, Some, None, is_some}
use Rattle.clock.specs.declared.Dll.{Dll}
use Rattle.limits.specs.Limits.{is_absent}

-- by what `is_none` ensures
pub none_is : (d : Option Dll) (none : Bool) → is_some d ≡ not none → none ≡ is_absent d
none_is None true e = refl
none_is None false e = absurd cc
none_is (Some d) true e = absurd cc
none_is (Some d) false e = refl
