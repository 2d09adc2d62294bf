-- From a fit head every moment of an LPSYS request is fit.
use Prim.Native.Nat.{ℕ, zero, suc, ◌≤◌}
use mathlib.Core.Path.{◌≡◌, refl, ◌∙◌}
use mathlib.Core.Bool.{Bool, true, false, false≢true, cond, ◌&&◌, ◌||◌}
use mathlib.Core.List.{List}
use native.Mathlib.Omega.{arith}
use lib.Dec.{eqb, leb}
use borrow.Author.Tests.{leb-true, eqb-true, le-leb}
use Rattle.record.proofs.Bytes.{and_left, and_right}
use Rattle.clock.specs.Clock.{divided}
use Rattle.register.specs.Word.{word_bytes, byte_a, byte_b, byte_c}
use Rattle.register.specs.Codes.{largest}
use Rattle.register.proofs.Fits.{fits_word}
use Rattle.head.specs.declared.Head.{Head}
use Rattle.head.specs.Encodable.{Encodable}
use Rattle.clock_read.specs.Hpsys.{reg, hertz, ready_reading, divided_reading, sys_of, hclk_of}
use Rattle.clock_read.proofs.Codes.{byte_most}
use Rattle.clock_read.specs.lpsys.{source_reading, lpsys_sys_of, lpsys_hclk_of}
use Rattle.journal.specs.Run.{begin}
use Rattle.journal.proofs.Moments.{Moments, moments_map, moments_both}
use Rattle.fit.specs.rail.{rail_limit}
use Rattle.fit.specs.Fit.{within, source_is_on, lpsys_fit, fits}
use Rattle.lpsys_request.specs.Request.{request}
use Rattle.lpsys_request.specs.Safe.{lpsys_hz, LpsysSafe}
use Rattle.lpsys_request.proofs.Safe.{KeptLpsys, request_safe}
use Rattle.claim.specs.Moment.{head_with, SafeAt}
use Rattle.claim.proofs.changes.View.{begun}
use Rattle.claim.proofs.requests.Coded.{Coded, Codes}
use Rattle.claim.proofs.requests.Still.{Same, Still, request_still}

-- the four tests of a fit head
module _ (h : Head) where
  abbrev pub clock : Bool
  clock = within (hclk_of h) (rail_limit h)

  abbrev pub first_flash : Bool
  first_flash = source_is_on (byte_b (reg h 5)) (reg h 3) (reg h 4)

  abbrev pub second_flash : Bool
  second_flash = source_is_on (byte_c (reg h 5)) (reg h 3) (reg h 4)

  abbrev lpsys : Bool
  lpsys = lpsys_fit (lpsys_hclk_of h) (reg h 28)

-- the LPSYS source reads 48 MHz or not at all
source_reads : (s : ℕ) (h : Head) (supply d : ℕ) → lpsys_fit (divided_reading (source_reading s h) d) supply ≡ true → source_reading s h ≡ hertz 48000000
source_reads s h supply d e = by (eqb s 0) h.hrc48_ready h.hxt48_ready e
  where
    by : (t a b : Bool) → lpsys_fit (divided_reading (cond t (ready_reading a) (ready_reading b)) d) supply ≡ true → cond t (ready_reading a) (ready_reading b) ≡ hertz 48000000
    by true true b e = refl
    by true false b e = absurd (false≢true e)
    by false a true e = refl
    by false a false e = absurd (false≢true e)

module _ (h : Head) (fit : fits h ≡ true) where
  pub clock_fit : clock h ≡ true
  unfolding fits
  clock_fit = and_left (clock h) (first_flash h && (second_flash h && lpsys h)) fit

  flash_fit : (first_flash h && (second_flash h && lpsys h)) ≡ true
  unfolding fits
  flash_fit = and_right (clock h) (first_flash h && (second_flash h && lpsys h)) fit

  pub first_fit : first_flash h ≡ true
  first_fit = and_left (first_flash h) (second_flash h && lpsys h) flash_fit

  pub second_fit : second_flash h ≡ true
  second_fit = and_left (second_flash h) (lpsys h) (and_right (first_flash h) (second_flash h && lpsys h) flash_fit)

  lpsys_fit_lem : lpsys h ≡ true
  lpsys_fit_lem = and_right (second_flash h) (lpsys h) (and_right (first_flash h) (second_flash h && lpsys h) flash_fit)

  pub source_48 : lpsys_sys_of h ≡ hertz 48000000
  unfolding lpsys_sys_of lpsys_hclk_of
  source_48 = source_reads (reg h 25) h (reg h 28) (byte_a (reg h 26)) lpsys_fit_lem

  -- LPSYS keeps its limit on D
  limited : (x : Bool) (hz supply : ℕ) → leb hz 24000000 ≡ x → (x || eqb supply 1) ≡ true → supply ≡ 0 → hz ≤ 24000000
  limited true hz supply e q z = leb-true hz 24000000 e
  limited false hz supply e q z = absurd (omega (arith, eqb-true supply 1 q, z))

  pub lpsys_safe : LpsysSafe h.regs
  unfolding lpsys_hz lpsys_hclk_of
  lpsys_safe =
      record { limit = λ z. limited (leb (divided 48000000 (byte_a (reg h 26))) 24000000) (divided 48000000 (byte_a (reg h 26))) (reg h 28) refl (rw source_48 at lpsys_fit_lem) z }

-- a head that differs from a fit one only from register 26 on, and keeps the limit of LPSYS, is fit
module _ (h : Head) (fit : fits h ≡ true) (regs : List ℕ) (kept : KeptLpsys regs) (same : Same h regs) (ok : Coded h regs) where
  abbrev g : Head
  g = head_with h regs

  -- "28 LPSYS supply (0 D, 1 S)"
  supply_code : reg g 28 ≤ 1
  unfolding word_bytes largest
  supply_code =
      omega (arith, fits_word 28 (reg g 28) (ok.codes 28 (omega arith)), byte_most g ok 28 (omega arith) 0, byte_most g ok 28 (omega arith) 1, byte_most g ok 28 (omega arith) 2)

  by_supply : (supply : ℕ) → supply ≤ 1 → (supply ≡ 0 → lpsys_hz regs ≤ 24000000) → (leb (lpsys_hz regs) 24000000 || eqb supply 1) ≡ true
  by_supply zero b limit = rw (le-leb (lpsys_hz regs) 24000000 (limit refl))
  by_supply (suc zero) b limit = or-true (leb (lpsys_hz regs) 24000000)
    where
      or-true : (a : Bool) → (a || true) ≡ true
      or-true true = refl
      or-true false = refl
  by_supply (suc (suc n)) b limit = absurd (omega (arith, b))

  lpsys_still : lpsys g ≡ true
  unfolding lpsys_hclk_of lpsys_sys_of lpsys_hz
  lpsys_still = rw (same 25 (omega arith), source_48 h fit) (by_supply (reg g 28) supply_code kept.safe.limit)

  clock_still : clock g ≡ clock h
  unfolding hclk_of sys_of rail_limit
  clock_still =
      rw (
        same 1 (omega arith),
        same 2 (omega arith),
        same 3 (omega arith),
        same 12 (omega arith),
        same 13 (omega arith),
        same 14 (omega arith),
        same 15 (omega arith),
        same 16 (omega arith),
      )

  first_still : first_flash g ≡ first_flash h
  first_still = rw (same 3 (omega arith), same 4 (omega arith), same 5 (omega arith))

  second_still : second_flash g ≡ second_flash h
  second_still = rw (same 3 (omega arith), same 4 (omega arith), same 5 (omega arith))

  pub still_fit : fits g ≡ true
  unfolding fits
  still_fit = rw (clock_still ∙ clock_fit h fit, first_still ∙ first_fit h fit, second_still ∙ second_fit h fit, lpsys_still)

-- every moment of an LPSYS request is fit, and the head that it leaves has a record
module _ (f : ℕ) (h : Head) (ok : Encodable h) (fit : fits h ≡ true) (p : 1 ≤ f) (q : f ≤ 48) where
  still : Still h (request f (begin h))
  still = request_still h (begun h fit).at f p ok

  abbrev All : List ℕ → Type 0
  All regs = KeptLpsys regs × (Same h regs × Coded h regs)

  all : Moments All h.regs (request f (begin h))
  all =
      moments_both KeptLpsys (λ (regs : List ℕ). Same h regs × Coded h regs) h.regs (request f (begin h)) (request_safe f h ok p (source_48 h fit) (lpsys_safe h fit) q)
      (moments_both (Same h) (Coded h) h.regs (request f (begin h)) still.same still.codes.moments)

  pub request_moments : Moments (SafeAt h) h.regs (request f (begin h))
  request_moments =
      moments_map All (SafeAt h) h.regs (request f (begin h)) (λ regs x. record { words = x.0.words; fit = still_fit h fit regs x.0 x.1.0 x.1.1 }) all

  pub request_codes : Codes h (request f (begin h))
  request_codes = still.codes

  pub request_goes : (request f (begin h)).stop ≡ 0
  request_goes = still.goes

  pub request_takes : (request f (begin h)).taken ≡ 0
  request_takes = still.takes
