-- The flash selects of a head, moved away from DLL1: document 01's (2) and (7) of the guarded change.
use Rattle.std.specs.Prelude.{ℕ, Bool, cond, ◌||◌, eqb}
use Rattle.register.specs.Word.{word_of, byte_b, byte_c}

-- a word of flash selects, b and c, of which one is on DLL1; and the word with Peri in their place
abbrev pub on_dll1 : ℕ → Bool
on_dll1 w = eqb (byte_b w) 1 || eqb (byte_c w) 1

abbrev pub away : ℕ → ℕ
away select = cond (eqb select 1) 0 select

abbrev pub moved : ℕ → ℕ
moved w = word_of 0 (away (byte_b w)) (away (byte_c w))
