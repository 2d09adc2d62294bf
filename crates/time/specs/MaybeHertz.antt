-- A frequency or none, as time.rs has it: 0 is none.
use Rattle.std.specs.Prelude.{ℕ, cond, eqb, Option, Some, None}
use Rattle.time.specs.declared.Hertz.{Hertz}

-- `From<MaybeHertz> for Option<Hertz>`: 0 is none
unfoldable pub found : ℕ → Option Hertz
found n = cond (eqb n 0) None (Some (record { 0 = n }))

-- `From<Option<Hertz>> for MaybeHertz`: none is 0
abbrev pub maybe : Option Hertz → ℕ
maybe (Some f) = f.0
maybe None = 0
