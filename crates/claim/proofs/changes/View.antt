-- A fit head, by what its registers hold.
use Prim.Native.Nat.{ℕ, ◌<◌, ◌≤◌}
use mathlib.Core.Path.{◌≡◌, refl, fun_ext}
use mathlib.Core.Bool.{Bool, true, false, cond, ◌&&◌}
use mathlib.Core.List.{List}
use native.Mathlib.Omega.{arith}
use lib.Dec.{eqb}
use lib.ListN.{length, get_or, set}
use lib.Seq.{get_or-set_same, get_or-set_other}
use borrow.Author.Tests.{leb-true, le-leb, eqb-true, eqb-false}
use Rattle.std.specs.Prelude.{Option, Some, None}
use Rattle.record.proofs.Bytes.{and_left, and_right}
use Rattle.time.specs.declared.Hertz.{Hertz}
use Rattle.register.specs.Word.{byte_a, byte_b, byte_c}
use Rattle.head.specs.declared.Head.{Head}
use Rattle.clock_read.specs.Hpsys.{reg, hertz, ready_reading, dll_reading, divided_reading, sys_of, hclk_of}
use Rattle.clock_read.specs.lpsys.{source_reading, lpsys_sys_of, lpsys_hclk_of}
use Rattle.fit.specs.rail.{rail_of, rail_limit}
use Rattle.fit.specs.Fit.{within, source_is_on, lpsys_fit, fits}
use Rattle.claim.specs.Moment.{SafeAt}

-- registers as a function, so that what a store leaves is seen by computation
abbrev pub Regs : Type 0
Regs = ℕ → ℕ

abbrev pub view : List ℕ → Regs
view l k = get_or l k 0

abbrev pub put : Regs → ℕ → ℕ → Regs
put x n v k = cond (eqb k n) v (x k)

pub view_set : (l : List ℕ) (n v : ℕ) → n < length l → view (set l n v) ≡ put (view l) n v
view_set l n v h = fun_ext (λ k. at k (eqb k n) refl)
  where
    at : (k : ℕ) (t : Bool) → eqb k n ≡ t → get_or (set l n v) k 0 ≡ cond t v (get_or l k 0)
    at k true e = rw (eqb-true k n e, get_or-set_same l n v 0 h)
    at k false e = get_or-set_other l n k v 0 (eqb-false k n e)

-- no flash select of the word `w` names a DLL that is off
pub record Flash (w dll1 dll2 : ℕ) : Type 0 where
  pub one : source_is_on (byte_b w) dll1 dll2 ≡ true
  pub two : source_is_on (byte_c w) dll1 dll2 ≡ true

module _ (h : Head) where
  -- HCLK by registers 1 to 3, LPSYS HCLK by 25 and 26
  abbrev pub clock_of : ℕ → ℕ → ℕ → Option Hertz
  clock_of s w d =
      divided_reading
      (cond (eqb s 0) (ready_reading h.hrc48_ready) (cond (eqb s 1) (ready_reading h.hxt48_ready) (cond (eqb s 3) (dll_reading d) None)))
      (byte_a w)

  abbrev low_of : ℕ → ℕ → Option Hertz
  low_of s w = divided_reading (source_reading s h) (byte_a w)

  abbrev pub rail : Regs → ℕ
  rail x = rail_of (x 12) (x 13) (x 14) (x 15) (x 16)

  -- HCLK is `f`, at most `top`, which the rails carry
  pub record Fit (f top : ℕ) (x : Regs) : Type 0 where
    pub reads : clock_of (x 1) (x 2) (x 3) ≡ hertz f
    pub below : f ≤ top
    pub rails : top ≤ rail x
    pub flash : Flash (x 5) (x 3) (x 4)
    pub low : lpsys_fit (low_of (x 25) (x 26)) (x 28) ≡ true

  -- then the head with these registers is fit
  pub fit_safe : {f top : ℕ} (l : List ℕ) → length l ≡ 35 → Fit f top (view l) → SafeAt h l
  unfolding fits hclk_of sys_of rail_limit lpsys_hclk_of lpsys_sys_of
  fit_safe {f} {top} l n t = record { words = n; fit = rw (t.reads, le-leb f (rail (view l)) (omega (arith, t.below, t.rails)), t.flash.one, t.flash.two) t.low }

-- a fit head's HCLK, and what is fit about it
pub record Begun (h : Head) : Type 0 where
  pub hz : ℕ
  pub at : hclk_of h ≡ hertz hz
  pub fit : Fit h hz hz (view h.regs)

pub begun : (h : Head) → fits h ≡ true → Begun h
unfolding fits hclk_of sys_of rail_limit lpsys_hclk_of lpsys_sys_of
begun h e =
    let a = within (hclk_of h) (rail_limit h) in
    let b = source_is_on (byte_b (reg h 5)) (reg h 3) (reg h 4) in
    let c = source_is_on (byte_c (reg h 5)) (reg h 3) (reg h 4) in
    let d = lpsys_fit (lpsys_hclk_of h) (reg h 28) in
    let bcd = and_right a (b && (c && d)) e in
    let cd = and_right b (c && d) bcd in
    go (hclk_of h) refl (and_left a (b && (c && d)) e) (and_left b (c && d) bcd) (and_left c d cd) (and_right c d cd)
  where
    go : (r : Option Hertz) → hclk_of h ≡ r → within r (rail_limit h) ≡ true → source_is_on (byte_b (reg h 5)) (reg h 3) (reg h 4) ≡ true →
        source_is_on (byte_c (reg h 5)) (reg h 3) (reg h 4) ≡ true → lpsys_fit (lpsys_hclk_of h) (reg h 28) ≡ true → Begun h
    go (Some f) q w b c d = record {
      hz = f.0;
      at = q;
      fit = record { reads = q; below = omega arith; rails = leb-true f.0 (rail_limit h) w; flash = record { one = b; two = c }; low = d };
    }
    go None q w b c d = let z : ◌≡◌ {A = ℕ} 0 1 = cc in absurd (omega arith)
