-- The tests of what the calls of rcc/clock_lpsys.rs are given.
use Rattle.std.specs.Prelude.{ℕ, Bool, ◌||◌, eqb, ltb}
use Rattle.record.specs.Refusals.{refuse}

-- "15 LPSYS request 0 or above 48"
abbrev pub out_of_range : ℕ → Bool
out_of_range f = eqb f 0 || ltb 48 f

abbrev pub request_refusal : ℕ → ℕ
request_refusal f = refuse 15 (out_of_range f)

-- "3 a byte outside its codes, a setter's too": exponents are 0 to 7
abbrev pub div_refusal : ℕ → ℕ → ℕ
div_refusal pdiv1 pdiv2 = refuse 3 (ltb 7 pdiv1 || ltb 7 pdiv2)

-- and sources are 0 HRC48 and 1 HXT48
abbrev pub source_refusal : ℕ → ℕ
source_refusal source = refuse 3 (ltb 1 source)
