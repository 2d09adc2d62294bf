-- The flash selects, once `init` of rcc/clock_config.rs has set DLL2 anew.
use Rattle.std.specs.Prelude.{ℕ, cond, eqb}
use Rattle.register.specs.Word.{word_of, byte_b, byte_c}

-- what a flash select is set back to: DLL2 (2) if it was on DLL2; any other stays on Peri (0)
abbrev pub select_back : ℕ → ℕ
select_back select = cond (eqb select 2) 2 0

unfoldable pub flash_back : ℕ → ℕ
flash_back old = word_of 0 (select_back (byte_b old)) (select_back (byte_c old))
