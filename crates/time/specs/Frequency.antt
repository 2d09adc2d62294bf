-- Frequencies as time.rs has them, at every operand.
use Rattle.std.specs.Prelude.{ℕ, ◌/◌, Option, Some, None}
use Rattle.time.specs.declared.Hertz.{Hertz}

-- truncated MHz: "the mode functions take truncated MHz, all else Hz"
abbrev pub megahertz : ℕ → ℕ
megahertz n = n / 1000000

-- `unwrap_or`: the frequency that reads, or `n`
abbrev pub hz_or : ℕ → Option Hertz → ℕ
hz_or n (Some f) = f.0
hz_or n None = n
