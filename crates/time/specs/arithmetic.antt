-- The arithmetic of time.rs, at every operand.
use Rattle.std.specs.Prelude.{ℕ, ◌/◌, cond, eqb, ltb, Result, Ok, Err}
use Rattle.time.specs.declared.Hertz.{Hertz}
use Rattle.time.specs.declared.arithmetic.ArithmeticError.{ArithmeticError}
use Rattle.time.specs.declared.arithmetic.ArithmeticError.TheVariants.{Overflow, ByZero}

-- `n` Hz where 32 bits hold it: `khz`, `mhz`, `Mul` and `Add`, which overflow in the Rust elsewhere
unfoldable pub exact : ℕ → Result Hertz ArithmeticError
exact n = cond (ltb n 4294967296) (Ok (record { 0 = n })) (Err Overflow)

-- `Div`, rounded down
unfoldable pub quotient : ℕ → ℕ → Result Hertz ArithmeticError
quotient n d = cond (eqb d 0) (Err ByZero) (Ok (record { 0 = n / d }))
