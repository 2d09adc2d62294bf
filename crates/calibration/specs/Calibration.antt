-- `calibrate_hrc48` of rcc/clock_config.rs.
use Rattle.std.specs.Prelude.{cond, List, ℕ}
use Rattle.head.specs.declared.Head.{Head}
use Rattle.register.specs.Word.{word_of}
use Rattle.journal.specs.Run.{Effect, ◌▸◌, halted, store}
use Rattle.calibration.specs.search.{search}
use Rattle.register.specs.Numbers.{HRC_CALIBRATION_LENGTH, HRC_CLOCK_SELECT}

-- `set_cal_length(0x3fff)`, `set_clkhp_sel(3)` and `set_clklp_sel(3)`, and a search of 11 measurements from trim 0x200 by steps of 0x100
unfoldable pub calibrate : List ℕ → Effect
calibrate a = store HRC_CALIBRATION_LENGTH 0x3fff ▸ store HRC_CLOCK_SELECT (word_of 0 3 3) ▸ search 11 0x200 0x100 0 a

-- the whole function, by the head; "31 `calibrate_hrc48` without HXT48"
abbrev pub calibrate_hrc48_on : List ℕ → Head → Effect
calibrate_hrc48_on a h = cond h.hxt48_ready (calibrate a) (halted 31)

unfoldable pub calibrate_hrc48 : List ℕ → Effect
calibrate_hrc48 a r = calibrate_hrc48_on a r.head r
