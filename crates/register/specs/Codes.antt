-- The codes of the registers and ready flags.
use Rattle.std.specs.Prelude.{ℕ, ◌*◌, Bool, ◌&&◌, List, [], ◌∷◌, ltb, take, drop}
use Rattle.record.specs.Bytes.{is_within}
use Rattle.layout.specs.Layout.{register_size}
use Rattle.register.specs.Word.{word_bytes}

-- The largest value of the byte at each place of a record, up to the ready flags. Register n has the places 3 n to 3 n + 2, and number 0,
-- where length and version stand, is unused.
-- "unused ones 0, a value without a letter in c, two-byte values high byte first"; "Registers 13 to 16, 29 and 30 hold 0 to 15. Codes not
-- named here are the plan's, exponents are 0 to 7, flags 0 or 1; all other used bytes may hold anything"
unfoldable pub largest : List ℕ
largest =
    -- 0
    0 ∷ 0 ∷ 0 ∷
    -- 1 core select
    0 ∷ 0 ∷ 3 ∷
    -- 2 hdiv a, pdiv1 b, pdiv2 c
    255 ∷ 7 ∷ 7 ∷
    -- 3 DLL1: on a, half b, stage c
    1 ∷ 1 ∷ 15 ∷
    -- 4 DLL2
    1 ∷ 1 ∷ 15 ∷
    -- 5 flash selects b, c (plan codes, and 3 reserved)
    0 ∷ 3 ∷ 3 ∷
    -- 6 peripheral
    0 ∷ 0 ∷ 1 ∷
    -- 7 USB source
    0 ∷ 0 ∷ 1 ∷
    -- 8 USB divider 0 to 7
    0 ∷ 0 ∷ 7 ∷
    -- 9 tick, always 0
    0 ∷ 0 ∷ 0 ∷
    -- 10 low-power select
    0 ∷ 0 ∷ 1 ∷
    -- 11 hpbg_en b, hpbg_vddpsw_en c
    0 ∷ 1 ∷ 1 ∷
    -- 12 HPSYS supply
    0 ∷ 0 ∷ 1 ∷
    -- 13 buck_vout
    0 ∷ 0 ∷ 15 ∷
    -- 14 hpsys_vout
    0 ∷ 0 ∷ 15 ∷
    -- 15 set_vout_m
    0 ∷ 0 ∷ 15 ∷
    -- 16 hpsys_ldo vref
    0 ∷ 0 ∷ 15 ∷
    -- 17 memory timing b, c
    0 ∷ 255 ∷ 255 ∷
    -- 18 clkhp_sel b, clklp_sel c
    0 ∷ 255 ∷ 255 ∷
    -- 19 trim 0 to 1023 in b, c
    0 ∷ 3 ∷ 255 ∷
    -- 20 calibration length b, c
    0 ∷ 255 ∷ 255 ∷
    -- 21 calibration on
    0 ∷ 0 ∷ 1 ∷
    -- 22 HXT48 request
    0 ∷ 0 ∷ 1 ∷
    -- 23 LRC32 on
    0 ∷ 0 ∷ 1 ∷
    -- 24 DLL buffer on
    0 ∷ 0 ∷ 1 ∷
    -- 25 LPSYS select
    0 ∷ 0 ∷ 1 ∷
    -- 26 hdiv1 a, pdiv1 b, pdiv2 c
    255 ∷ 7 ∷ 7 ∷
    -- 27 LPSYS peripheral
    0 ∷ 0 ∷ 1 ∷
    -- 28 LPSYS supply
    0 ∷ 0 ∷ 1 ∷
    -- 29 lpsys_vout
    0 ∷ 0 ∷ 15 ∷
    -- 30 LPSYS vref
    0 ∷ 0 ∷ 15 ∷
    -- 31 LPSYS timing b, c
    0 ∷ 255 ∷ 255 ∷
    -- 32 LPSYS HXT48 request
    0 ∷ 0 ∷ 1 ∷
    -- 33 HP2LP request
    0 ∷ 0 ∷ 1 ∷
    -- 34 macdiv b, macfreq c
    0 ∷ 255 ∷ 255 ∷
    -- HXT48, HRC48 and LPSYS HXT48 ready flags
    1 ∷ 1 ∷ 1 ∷ []

-- the largest values of register `n`'s three bytes
abbrev pub codes_of : ℕ → List ℕ
codes_of n = take register_size (drop (register_size * n) largest)

-- register `n` may hold `v`
unfoldable pub fits_register : ℕ → ℕ → Bool
fits_register n v = ltb v 16777216 && is_within (word_bytes v) (codes_of n)
