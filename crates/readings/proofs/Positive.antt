-- No frequency that reads is 0, where the source would panic.
use Prim.Native.Nat.{ℕ, ◌/◌, ◌≤◌}
use mathlib.Core.Bool.{Bool, true, false, cond}
use native.Mathlib.Omega.{arith}
use native.Mathlib.Nat.{le_trans}
use lib.Dec.{eqb}
use Rattle.time.specs.declared.Hertz.{Hertz}
use Rattle.std.specs.Prelude.{Option, Some, None}
use Rattle.clock.proofs.Laws.{dll_least, divided_least, shifted_least}
use Rattle.head.specs.declared.Head.{Head}
use Rattle.register.specs.Word.{word_bytes, byte_a, byte_b, byte_c}
use Rattle.register.specs.Codes.{largest}
use Rattle.head.specs.Encodable.{Encodable}
use Rattle.clock_read.specs.Hpsys.{reg, hertz, ready_reading, dll_reading, divided_reading, sys_of, hclk_of}
use Rattle.clock_read.specs.devices.{usb_source, usb_of, wdt_of, flash_of}
use Rattle.clock_read.specs.lpsys.{source_reading, lpsys_sys_of, lpsys_hclk_of}
use Rattle.clock_read.specs.buses.{shifted_reading, pclk_of, pclk2_of, lpsys_pclk1_of, lpsys_pclk2_of, lpsys_peri_of, lpsys_mac_of}
use Rattle.clock_read.proofs.Codes.{byte_most}

-- a reading of at least `n` Hz, or none
pub data Least : ℕ → Option Hertz → Type 0 where
  reads : {n : ℕ} {f : Hertz} → n ≤ f.0 → Least n (Some f)
  none : {n : ℕ} → Least n None

by_cond : {n : ℕ} (t : Bool) {x y : Option Hertz} → Least n x → Least n y → Least n (cond t x y)
by_cond true p q = p
by_cond false p q = q

fixed : {m n : ℕ} → m ≤ n → Least m (hertz n)
fixed p = reads p

least_ready : (t : Bool) → Least 12000000 (ready_reading t)
least_ready true = fixed (omega arith)
least_ready false = none

pub least_dll : (w : ℕ) → Least 12000000 (dll_reading w)
unfolding dll_reading
least_dll w = by_cond (eqb (byte_a w) 1) (reads (dll_least (byte_c w) (eqb (byte_b w) 1))) none

least_divided : (n : ℕ) (r : Option Hertz) (d : ℕ) → d ≤ 255 → Least n r → Least (n / 255) (divided_reading r d)
least_divided n (Some f) d p (reads q) = reads (divided_least n f.0 d p q)
least_divided n None d p none = none

least_shifted : (n : ℕ) (r : Option Hertz) (e : ℕ) → e ≤ 7 → Least n r → Least (n / 128) (shifted_reading r e)
least_shifted n (Some f) e p (reads q) = reads (shifted_least n f.0 e p q)
least_shifted n None e p none = none

pub least_sys : (h : Head) → Least 12000000 (sys_of h)
unfolding sys_of
least_sys h =
    by_cond (eqb (reg h 1) 0) (least_ready h.hrc48_ready)
    (by_cond (eqb (reg h 1) 1) (least_ready h.hxt48_ready)
    (by_cond (eqb (reg h 1) 3) (least_dll (reg h 3)) none))

-- HCLK is at least 47,058 Hz
pub least_hclk : (h : Head) → Least 47058 (hclk_of h)
unfolding hclk_of
least_hclk h = least_divided 12000000 (sys_of h) (byte_a (reg h 2)) (omega arith) (least_sys h)

-- every frequency that a call reads from a head that its record holds
pub record Positive (h : Head) : Type 0 where
  pub sysclk : Least 1 (sys_of h)
  pub hclk : Least 1 (hclk_of h)
  pub pclk : Least 1 (pclk_of h)
  pub pclk2 : Least 1 (pclk2_of h)
  pub dll1 : Least 1 (dll_reading (reg h 3))
  pub dll2 : Least 1 (dll_reading (reg h 4))
  pub usb : Least 1 (usb_of h)
  pub wdt : Least 1 (wdt_of h)
  pub mpi1 : Least 1 (flash_of (byte_b (reg h 5)) h)
  pub mpi2 : Least 1 (flash_of (byte_c (reg h 5)) h)
  pub lpsys_sysclk : Least 1 (lpsys_sys_of h)
  pub lpsys_hclk : Least 1 (lpsys_hclk_of h)
  pub lpsys_pclk1 : Least 1 (lpsys_pclk1_of h)
  pub lpsys_pclk2 : Least 1 (lpsys_pclk2_of h)
  pub lpsys_peri : Least 1 (lpsys_peri_of h)
  pub lpsys_mac : Least 1 (lpsys_mac_of h)

lower : {m n : ℕ} {r : Option Hertz} → m ≤ n → Least n r → Least m r
lower p (reads q) = reads (le_trans p q)
lower p none = none

-- exponents of registers 2 and 26
module _ (h : Head) (ok : Encodable h) where
  pdiv1 : byte_b (reg h 2) ≤ 7
  unfolding word_bytes largest
  pdiv1 = byte_most h ok 2 (omega arith) 1

  pdiv2 : byte_c (reg h 2) ≤ 7
  unfolding word_bytes largest
  pdiv2 = byte_most h ok 2 (omega arith) 2

  lpsys_pdiv1 : byte_b (reg h 26) ≤ 7
  unfolding word_bytes largest
  lpsys_pdiv1 = byte_most h ok 26 (omega arith) 1

  lpsys_pdiv2 : byte_c (reg h 26) ≤ 7
  unfolding word_bytes largest
  lpsys_pdiv2 = byte_most h ok 26 (omega arith) 2

least_usb : (h : Head) → Least 47058 (usb_of h)
unfolding usb_of usb_source
least_usb h =
    least_divided 12000000 (cond (eqb (reg h 7) 1) (dll_reading (reg h 4)) (sys_of h)) (byte_c (reg h 8)) (omega arith)
    (by_cond (eqb (reg h 7) 1) (least_dll (reg h 4)) (least_sys h))

least_wdt : (h : Head) → Least 1 (wdt_of h)
unfolding wdt_of
least_wdt h = by_cond (eqb (reg h 10) 0) (fixed (omega arith)) (fixed (omega arith))

least_flash : (select : ℕ) (h : Head) → Least 12000000 (flash_of select h)
unfolding flash_of
least_flash select h =
    by_cond (eqb select 1) (least_dll (reg h 3))
    (by_cond (eqb select 2) (least_dll (reg h 4)) (fixed (omega arith)))

least_source : (select : ℕ) (h : Head) → Least 12000000 (source_reading select h)
least_source select h = by_cond (eqb select 0) (least_ready h.hrc48_ready) (least_ready h.hxt48_ready)

least_lpsys_sys : (h : Head) → Least 12000000 (lpsys_sys_of h)
unfolding lpsys_sys_of
least_lpsys_sys h = least_source (reg h 25) h

least_lpsys_hclk : (h : Head) → Least 47058 (lpsys_hclk_of h)
unfolding lpsys_hclk_of
least_lpsys_hclk h = least_divided 12000000 (lpsys_sys_of h) (byte_a (reg h 26)) (omega arith) (least_lpsys_sys h)

pub positive : (h : Head) → Encodable h → Positive h
unfolding pclk_of pclk2_of lpsys_pclk1_of lpsys_pclk2_of lpsys_peri_of lpsys_mac_of
positive h ok = record {
  sysclk = lower (omega arith) (least_sys h);
  hclk = lower (omega arith) (least_hclk h);
  pclk = lower (omega arith) (least_shifted 47058 (hclk_of h) (byte_b (reg h 2)) (pdiv1 h ok) (least_hclk h));
  pclk2 = lower (omega arith) (least_shifted 47058 (hclk_of h) (byte_c (reg h 2)) (pdiv2 h ok) (least_hclk h));
  dll1 = lower (omega arith) (least_dll (reg h 3));
  dll2 = lower (omega arith) (least_dll (reg h 4));
  usb = lower (omega arith) (least_usb h);
  wdt = least_wdt h;
  mpi1 = lower (omega arith) (least_flash (byte_b (reg h 5)) h);
  mpi2 = lower (omega arith) (least_flash (byte_c (reg h 5)) h);
  lpsys_sysclk = lower (omega arith) (least_lpsys_sys h);
  lpsys_hclk = lower (omega arith) (least_lpsys_hclk h);
  lpsys_pclk1 = lower (omega arith) (least_shifted 47058 (lpsys_hclk_of h) (byte_b (reg h 26)) (lpsys_pdiv1 h ok) (least_lpsys_hclk h));
  lpsys_pclk2 = lower (omega arith) (least_shifted 47058 (lpsys_hclk_of h) (byte_c (reg h 26)) (lpsys_pdiv2 h ok) (least_lpsys_hclk h));
  lpsys_peri = lower (omega arith) (least_source (reg h 27) h);
  lpsys_mac = lower (omega arith) (least_divided 47058 (lpsys_hclk_of h) (byte_b (reg h 34)) (omega arith) (least_lpsys_hclk h));
}
