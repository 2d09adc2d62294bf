-- An LPSYS request stores registers from 26 on alone, each within its codes, takes no answer, and comes to its end where HCLK reads.
use Prim.Native.Nat.{ℕ, ◌≤◌, ◌<◌}
use mathlib.Core.Path.{◌≡◌, refl, ap, ◌∙◌}
use mathlib.Core.Bool.{true}
use mathlib.Core.List.{List}
use native.Mathlib.Omega.{arith}
use lib.ListN.{get_or}
use lib.Seq.{get_or-set_other}
use Rattle.record.specs.Bytes.{is_within}
use Rattle.register.specs.Word.{word_of, word_bytes, byte_b, byte_c}
use Rattle.register.specs.Codes.{largest, fits_register}
use Rattle.register.proofs.Fits.{fits_word}
use Rattle.head.specs.declared.Head.{Head}
use Rattle.head.specs.Encodable.{Encodable}
use Rattle.clock_read.specs.Hpsys.{reg, hertz, sys_of, hclk_of}
use Rattle.journal.specs.Run.{Run, begin, unless_ended, store, delay}
use Rattle.journal.proofs.Moments.{Moments, moments_begin, moments_now, moments_store, moments_delay}
use Rattle.dvfs.specs.declared.lpsys.LpsysDvfsMode.{LpsysDvfsMode}
use Rattle.dvfs.specs.declared.lpsys.LpsysDvfsMode.TheVariants.{D, S}
use Rattle.dvfs_lpsys.specs.switch.{lpsys_d2s_first, lpsys_s2d_first, lpsys_s2d_second}
use Rattle.dvfs_lpsys.specs.LpsysModes.{lpsys_first, lpsys_second}
use Rattle.lpsys_request.specs.modes.{divider_for, present_mode, request_mode}
use Rattle.lpsys_request.proofs.modes.Divider.{divider_small}
use Rattle.lpsys_request.specs.hdiv.{set_hdiv}
use Rattle.lpsys_request.specs.Request.{request}
use Rattle.lpsys_request.proofs.hdiv.Fits.{hdiv_fits}
use Rattle.claim.proofs.requests.Coded.{Codes, codes_now, codes_begin, codes_store, codes_delay}

module _ (h : Head) where
  abbrev l : List ℕ
  l = h.regs

  -- the registers below 26 are as they were
  abbrev pub Same : List ℕ → Type 0
  Same regs = (n : ℕ) → n < 26 → get_or regs n 0 ≡ get_or l n 0

  pub record Still (r : Run) : Type 0 where
    pub codes : Codes h r
    pub same : Moments Same l r
    pub goes : r.stop ≡ 0
    pub takes : r.taken ≡ 0

  -- so HCLK reads what it did
  same_clock : (r : Run) → Still r → hclk_of r.head ≡ hclk_of h
  unfolding hclk_of sys_of
  same_clock r s =
      let same = moments_now Same l r s.same in
      ap hclk_of s.codes.only ∙ rw (same 1 (omega arith), same 2 (omega arith), same 3 (omega arith))

module _ (h : Head) {hz : ℕ} (reads : hclk_of h ≡ hertz hz) where
  -- a store of a later register, within its codes
  stores : (n v : ℕ) → 26 ≤ n → n < 35 → fits_register n v ≡ true → (r : Run) → Still h r → Still h (store n v r)
  unfolding store unless_ended
  stores n v p q fits r s =
      record {
        codes = codes_store h n v q fits r s.codes;
        same = moments_store (Same h) h.regs n v q (fits_word n v fits) r s.same
            (λ k b. get_or-set_other r.head.regs n k v 0 (λ e. omega (arith, p, b, e)) ∙ moments_now (Same h) h.regs r s.same k b);
        goes = rw s.goes;
        takes = rw s.goes s.takes;
      }

  waits : (us : ℕ) (r : Run) → Still h r → Still h (delay us r)
  unfolding delay unless_ended
  waits us r s = record {
    codes = codes_delay h us r s.codes;
    same = moments_delay (Same h) h.regs us r s.same;
    goes = rw (s.goes, same_clock h r s ∙ reads);
    takes = rw (s.goes, same_clock h r s ∙ reads) s.takes;
  }

  first : (current target : LpsysDvfsMode) (r : Run) → Still h r → Still h (lpsys_first current target r)
  unfolding lpsys_d2s_first lpsys_s2d_first fits_register is_within word_bytes largest
  first D D r s = s
  first D S r s = waits 250 _ (stores 28 1 (omega arith) (omega arith) refl _ (stores 29 8 (omega arith) (omega arith) refl r s))
  first S D r s = stores 30 6 (omega arith) (omega arith) refl r s
  first S S r s = s

  second : (current target : LpsysDvfsMode) (r : Run) → Still h r → Still h (lpsys_second current target r)
  unfolding lpsys_s2d_second fits_register is_within word_bytes largest
  second D target r s = s
  second S D r s = stores 28 0 (omega arith) (omega arith) refl _ (stores 31 0x162 (omega arith) (omega arith) refl r s)
  second S S r s = s

  divider : (hdiv : ℕ) → hdiv < 256 → (r : Run) → Still h r → Still h (set_hdiv hdiv r)
  unfolding set_hdiv
  divider hdiv p r s =
      stores 26 (word_of hdiv (byte_b (reg r.head 26)) (byte_c (reg r.head 26))) (omega arith) (omega arith) (hdiv_fits hdiv r.head p (codes_now h r s.codes)) r s

  pub request_still : (f : ℕ) → 1 ≤ f → Encodable h → Still h (request f (begin h))
  unfolding request
  request_still f p ok =
      let from = present_mode h in
      let to = request_mode f in
      let start : Still h (begin h) = record { codes = codes_begin h ok; same = moments_begin (Same h) h (λ n b. refl); goes = refl; takes = refl } in
      let hdiv = divider (divider_for f h) (omega (arith, divider_small f h p)) (lpsys_first from to (begin h)) (first from to (begin h) start) in
      second from to (set_hdiv (divider_for f h) (lpsys_first from to (begin h))) hdiv
