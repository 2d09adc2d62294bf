-- The slowing from a fit head: every moment is fit, it is not refused 43, and LPSYS is left at 24 MHz or less.
use Prim.Native.Nat.{ℕ, ◌/◌, ◌≤◌}
use mathlib.Core.Path.{◌≡◌, refl}
use mathlib.Core.Bool.{Bool, true, false, cond}
use mathlib.Core.List.{List}
use native.Mathlib.Omega.{arith}
use native.Mathlib.Nat.{div-le_self}
use lib.Dec.{eqb, ltb}
use lib.ListN.{get_or}
use borrow.Author.Tests.{ltb-false}
use Rattle.clock.specs.Clock.{divided}
use Rattle.register.specs.Word.{byte_a}
use Rattle.head.specs.declared.Head.{Head}
use Rattle.head.specs.Encodable.{Encodable}
use Rattle.clock_read.specs.Hpsys.{hertz}
use Rattle.clock_read.specs.lpsys.{lpsys_hclk_of}
use Rattle.journal.specs.Run.{Run, begin, idle}
use Rattle.journal.proofs.Moments.{Moments, moments_begin}
use Rattle.fit.specs.Fit.{fits}
use Rattle.lpsys_request.specs.Request.{request}
use Rattle.lpsys_request.specs.Safe.{lpsys_hz}
use Rattle.lpsys_request.specs.slow.{refuse_unread, slow_down}
use Rattle.lpsys_request.proofs.Safe.{request_slow}
use Rattle.claim.specs.Moment.{head_with, SafeAt}
use Rattle.claim.proofs.requests.Coded.{codes_now}
use Rattle.claim.proofs.requests.Laws.{source_48, lpsys_safe, request_moments, request_codes, request_goes}

-- LPSYS runs at no more than 48 MHz
pub lpsys_most : (regs : List ℕ) → lpsys_hz regs ≤ 48000000
unfolding lpsys_hz divided
lpsys_most regs = by (byte_a (get_or regs 26 0)) (eqb (byte_a (get_or regs 26 0)) 0)
  where
    by : (d : ℕ) (t : Bool) → cond t 48000000 (48000000 / d) ≤ 48000000
    by d true = omega arith
    by d false = div-le_self 48000000 d

pub record SlowDid (h : Head) (r : Run) : Type 0 where
  pub moments : Moments (SafeAt h) h.regs r
  pub only : r.head ≡ head_with h r.head.regs
  pub encodable : Encodable r.head
  pub goes : r.stop ≡ 0
  pub slow : lpsys_hz r.head.regs ≤ 24000000

module _ (h : Head) (ok : Encodable h) (fit : fits h ≡ true) where
  -- LPSYS HCLK reads what LPSYS runs at
  pub lpsys_reads : lpsys_hclk_of h ≡ hertz (lpsys_hz h.regs)
  unfolding lpsys_hclk_of lpsys_hz
  lpsys_reads = rw (source_48 h fit) refl

  pub slows : SlowDid h (slow_down (refuse_unread (begin h)))
  unfolding slow_down refuse_unread
  slows = rw (lpsys_reads, lpsys_reads) (by (ltb 24000000 (lpsys_hz h.regs)) refl)
    where
      by : (t : Bool) → ltb 24000000 (lpsys_hz h.regs) ≡ t → SlowDid h (cond t (request 24) idle (begin h))
      by true e =
          let codes = request_codes 24 h ok fit (omega arith) (omega arith) in
          record {
            moments = request_moments 24 h ok fit (omega arith) (omega arith);
            only = codes.only;
            encodable = codes_now h (request 24 (begin h)) codes;
            goes = request_goes 24 h ok fit (omega arith) (omega arith);
            slow = request_slow 24 h ok (omega arith) (source_48 h fit) (lpsys_safe h fit) (omega arith);
          }
      by false e = record {
        moments = moments_begin (SafeAt h) h (record { words = ok.words; fit = fit });
        only = refl;
        encodable = ok;
        goes = refl;
        slow = ltb-false 24000000 (lpsys_hz h.regs) e;
      }
