-- DLL and divider arithmetic.
use Rattle.std.specs.Prelude.{ℕ, ◌+◌, ◌*◌, ◌/◌, ◌^◌, Bool, cond, eqb}

-- a DLL before halving
abbrev pub whole_hz : ℕ → ℕ
whole_hz stage = 24000000 * (stage + 1)

-- "A DLL gives 24,000,000 × (stage + 1), halved if half."
unfoldable pub dll_hz : ℕ → Bool → ℕ
dll_hz stage half = cond half (whole_hz stage / 2) (whole_hz stage)

-- "divided by hdiv, rounded down; hdiv 0 divides by 1"
unfoldable pub divided : ℕ → ℕ → ℕ
divided f d = cond (eqb d 0) f (f / d)

-- "shifted right by their exponents"
unfoldable pub shifted : ℕ → ℕ → ℕ
shifted f e = f / 2 ^ e
