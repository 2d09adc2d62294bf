-- A measurement of `calibrate_hrc48` of rcc/clock_config.rs, its counts, and the verdict on the last.
use Rattle.std.specs.Prelude.{ℕ, ◌-◌, cond, List, ltb, get_or}
use Rattle.journal.specs.Run.{Run, Effect, ◌▸◌, idle, halted, store, delay, measure}
use Rattle.register.specs.Numbers.{HRC_CALIBRATION_ON, HRC_TRIM}

-- one turn of the loop of `calibrate_hrc48` up to its readings: the trim, 3 us to settle, calibration on, a measurement, calibration off
unfoldable pub measurement : ℕ → List ℕ → Effect
measurement trim a = store HRC_TRIM trim ▸ delay 3 ▸ store HRC_CALIBRATION_ON 1 ▸ measure a ▸ store HRC_CALIBRATION_ON 0

-- "a finished measurement takes two more, hxt_cnt and hrc_cnt": the two answers taken last
abbrev pub hxt_cnt : List ℕ → Run → ℕ
hxt_cnt a r = get_or a (r.taken - 2) 0

abbrev pub hrc_cnt : List ℕ → Run → ℕ
hrc_cnt a r = get_or a (r.taken - 1) 0

-- `cnt_diff`: how far the counts are apart
unfoldable pub difference : ℕ → ℕ → ℕ
difference hxt hrc = cond (ltb hrc hxt) (hxt - hrc) (hrc - hxt)

-- "33 final difference above 160"
unfoldable pub judged_difference : ℕ → Effect
judged_difference d = cond (ltb 160 d) (halted 33) idle
