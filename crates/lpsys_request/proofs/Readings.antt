-- A frequency that is read, or another in its place.
use Prim.Native.Nat.{ℕ}
use mathlib.Core.Path.{◌≡◌, refl}
use Rattle.std.specs.Prelude.{Option, Some, None}
use Rattle.std.specs.Option.{unwrap_or}
use Rattle.time.specs.declared.Hertz.{Hertz}
use Rattle.time.specs.Frequency.{hz_or}

pub hz_read : {read o : Option Hertz} {f : Hertz} (n : ℕ) → read ≡ o → f ≡ unwrap_or read (record { 0 = n }) → hz_or n o ≡ f.0
hz_read {o = o} n e q = rw (q, e) (by o)
  where
    by : (x : Option Hertz) → hz_or n x ≡ (unwrap_or x (record { 0 = n })).0
    by (Some f) = refl
    by None = refl
