-- A frequency is its number of Hz.
use Prim.Native.Nat.{ℕ}
use mathlib.Core.Path.{◌≡◌, ap}
use Rattle.time.specs.declared.Hertz.{Hertz}

pub hertz_is : {f : Hertz} {n : ℕ} → f.0 ≡ n → f ≡ record { 0 = n }
hertz_is {f} {n} e = ap hz e
  where
    hz : ℕ → Hertz
    hz k = record { 0 = k }
