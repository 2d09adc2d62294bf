-- HCLK is at most 384 MHz, whatever a head's registers select.
use Prim.Native.Nat.{ℕ, ◌≤◌}
use mathlib.Core.Bool.{Bool, true, false, cond}
use native.Mathlib.Nat.{le_trans}
use lib.Dec.{eqb, lit≤}
use Rattle.time.specs.declared.Hertz.{Hertz}
use Rattle.std.specs.Prelude.{Option, Some, None}
use Rattle.clock.proofs.Laws.{dll_most, divided_most}
use Rattle.head.specs.declared.Head.{Head}
use Rattle.register.specs.Word.{byte_a, byte_b, byte_c}
use Rattle.head.specs.Encodable.{Encodable}
use Rattle.clock_read.specs.Hpsys.{reg, ready_reading, dll_reading, divided_reading, sys_of, hclk_of}
use Rattle.clock_read.proofs.Codes.{dll1_stage}

-- a reading of at most `n` Hz, or none
pub data Most : ℕ → Option Hertz → Type 0 where
  reads : {n : ℕ} {f : Hertz} → f.0 ≤ n → Most n (Some f)
  none : {n : ℕ} → Most n None

-- what it says of a frequency that was read
pub most_at : {n : ℕ} {f : Hertz} → Most n (Some f) → f.0 ≤ n
most_at (reads p) = p

by_cond : {n : ℕ} (t : Bool) {x y : Option Hertz} → Most n x → Most n y → Most n (cond t x y)
by_cond true p q = p
by_cond false p q = q

most_ready : (t : Bool) → Most 384000000 (ready_reading t)
most_ready true = reads (lit≤ tt)
most_ready false = none

most_dll : (w : ℕ) → byte_c w ≤ 15 → Most 384000000 (dll_reading w)
unfolding dll_reading
most_dll w h = by_cond (eqb (byte_a w) 1) (reads (dll_most (byte_c w) (eqb (byte_b w) 1) h)) none

pub most_sys : (h : Head) → Encodable h → Most 384000000 (sys_of h)
unfolding sys_of
most_sys h ok =
    by_cond (eqb (reg h 1) 0) (most_ready h.hrc48_ready)
    (by_cond (eqb (reg h 1) 1) (most_ready h.hxt48_ready)
    (by_cond (eqb (reg h 1) 3) (most_dll (reg h 3) (dll1_stage h ok)) none))

most_divided : (n : ℕ) (r : Option Hertz) (d : ℕ) → Most n r → Most n (divided_reading r d)
most_divided n (Some f) d (reads p) = reads (le_trans (divided_most f.0 d) p)
most_divided n None d none = none

pub most_hclk : (h : Head) → Encodable h → Most 384000000 (hclk_of h)
unfolding hclk_of
most_hclk h ok = most_divided 384000000 (sys_of h) (byte_a (reg h 2)) (most_sys h ok)
