-- The number of a refusal is not 0, so that 0 says that there is none.
use mathlib.Core.Path.{◌≡◌, refl}
use mathlib.Core.Bool.{true, false}
use native.Mathlib.Omega.{arith}
use Rattle.std.specs.Prelude.{Option, Some, None}
use Rattle.std.specs.Option.{is_some}
use Rattle.refusal.specs.declared.Refusal.{Refusal}
use Rattle.refusal.specs.Refusal.{number, number_or_zero}

pub not_0 : (r : Refusal) → number r ≡ 0 → ⊥
not_0 r e = grind arith

-- what a test of an optional refusal says of its number
pub none_is_0 : (s : Option Refusal) → is_some s ≡ false → number_or_zero s ≡ 0
none_is_0 None e = refl
none_is_0 (Some r) e = absurd (cc)

pub some_not_0 : (s : Option Refusal) → is_some s ≡ true → number_or_zero s ≡ 0 → ⊥
some_not_0 None e = absurd (cc)
some_not_0 (Some r) e = not_0 r

-- and what the number says of it
pub none_at_0 : {s : Option Refusal} → number_or_zero s ≡ 0 → s ≡ None
none_at_0 {s = None} e = refl
none_at_0 {s = Some r} e = absurd (not_0 r e)
