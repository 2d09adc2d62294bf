-- A clock's frequency with another in its place where it does not read.
use mathlib.Core.Path.{◌≡◌, refl}
use Rattle.std.specs.Prelude.{Option, Some, None}
use Rattle.std.specs.Option.{unwrap_or}
use Rattle.time.specs.declared.Hertz.{Hertz}
use Rattle.time.specs.Frequency.{hz_or}

pub hz_or_is : (o : Option Hertz) (d : Hertz) → hz_or d.0 o ≡ (unwrap_or o d).0
hz_or_is None d = refl
hz_or_is (Some f) d = refl
