-- Laws of a measurement and of the verdict: on a call that has ended they do nothing, and they only append.
use Prim.Native.Nat.{ℕ, ◌/◌, ◌%◌, ◌≤◌}
use mathlib.Core.Path.{◌≡◌, refl}
use mathlib.Core.Bool.{Bool, true, false, cond}
use mathlib.Core.List.{List}
use native.Mathlib.Omega.{arith}
use lib.Dec.{ltb}
use borrow.Author.Tests.{le-leb, lt-ltb}
use Rattle.record.specs.Bytes.{is_within}
use Rattle.register.specs.Word.{word_of, word_bytes}
use Rattle.register.specs.Codes.{largest, fits_register}
use Rattle.journal.specs.Run.{Effect, halted}
use Rattle.journal.proofs.Ended.{Still, still_unless_ended, still_then, still_store, still_delay, still_measure}
use Rattle.journal.proofs.Framed.{Framed, framed_idle, framed_then, framed_unless_ended, framed_ended, framed_store, framed_delay, framed_measure}
use Rattle.calibration.specs.measure.{measurement, judged_difference}

-- register 19 may hold every trim
pub trim_fits : (v : ℕ) → v ≤ 1023 → fits_register 19 v ≡ true
unfolding fits_register is_within word_bytes largest
trim_fits v h = rw (lt-ltb v 16777216 (omega arith), le-leb (v / 65536 % 256) 0 (omega arith), le-leb (v / 256 % 256) 3 (omega arith), le-leb (v % 256) 255 (omega arith))

-- what is stored besides trims fits its registers
pub record SettingsFit : Type 0 where
  pub length : fits_register 20 0x3fff ≡ true
  pub clocks : fits_register 18 (word_of 0 3 3) ≡ true
  pub on : fits_register 21 1 ≡ true
  pub off : fits_register 21 0 ≡ true

pub settings_fit : SettingsFit
unfolding fits_register is_within word_bytes largest
settings_fit = record { length = refl; clocks = refl; on = refl; off = refl }

-- a call that has ended
pub still_either : {f g : Effect} (t : Bool) → Still f → Still g → Still (cond t f g)
still_either true x y = x
still_either false x y = y

pub still_halted : (n : ℕ) → Still (halted n)
unfolding halted
still_halted n = still_unless_ended _

pub still_judged : (d : ℕ) → Still (judged_difference d)
unfolding judged_difference
still_judged d = still_either (ltb 160 d) (still_halted 33) (record { stays = λ r e. refl })

pub still_measurement : (trim : ℕ) (a : List ℕ) → Still (measurement trim a)
unfolding measurement
still_measurement trim a =
    still_then (still_then (still_then (still_then (still_store 19 trim) (still_delay 3)) (still_store 21 1)) (still_measure a)) (still_store 21 0)

-- both only append
pub framed_either : {f g : Effect} (t : Bool) → Framed f → Framed g → Framed (cond t f g)
framed_either true x y = x
framed_either false x y = y

pub framed_halted : (n : ℕ) → Framed (halted n)
unfolding halted
framed_halted n = framed_unless_ended (record { appends = λ es r. (framed_ended n r.taken).appends es r })

pub framed_judged : (d : ℕ) → Framed (judged_difference d)
unfolding judged_difference
framed_judged d = framed_either (ltb 160 d) (framed_halted 33) framed_idle

pub framed_measurement : (trim : ℕ) (a : List ℕ) → Framed (measurement trim a)
unfolding measurement
framed_measurement trim a =
    framed_then (framed_then (framed_then (framed_then (framed_store 19 trim) (framed_delay 3)) (framed_store 21 1)) (framed_measure a)) (framed_store 21 0)
