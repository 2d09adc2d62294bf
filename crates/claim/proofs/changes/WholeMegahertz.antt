-- Truncated MHz against Hz: no HCLK lies strictly between a mode's limit and the next whole MHz.
use Prim.Native.Nat.{ℕ, zero, suc, ◌/◌, ◌<◌, ◌≤◌}
use mathlib.Core.Path.{◌≡◌, refl, ap, subst}
use mathlib.Core.Bool.{Bool, true, false, cond, ◌&&◌}
use native.Mathlib.Omega.{arith}
use native.Mathlib.Nat.{div-le_of_le-mul, not-suc-le-zero}
use native.Mathlib.Decide.{dec_lt}
use lib.ListN.{drop}
use lib.Dec.{eqb, leb}
use borrow.Author.Tests.{leb-true, ltb-false, eqb-true, le-leb}
use Rattle.std.specs.Prelude.{Option, Some, None}
use Rattle.record.proofs.Bytes.{and_left, and_right, within_at}
use Rattle.time.specs.Frequency.{hz_or}
use Rattle.time.specs.declared.Hertz.{Hertz}
use Rattle.clock.specs.declared.Dll.{Dll}
use Rattle.clock.specs.Clock.{dll_hz, divided}
use Rattle.clock.proofs.Laws.{dll_least, dll_most, divided_least}
use Rattle.plan.specs.Code.{largest_of_plan}
use Rattle.plan.specs.declared.Plan.{Plan}
use Rattle.plan.specs.Plan.{encoded, legal}
use Rattle.plan_clocks.specs.Clocks.{maybe_hz, sys_hz, hclk_hz}
use Rattle.limits.specs.Limits.{core_on_absent_dll1, is_absent}
use Rattle.limits.specs.Limits.{hclk_too_fast}
use Rattle.verdict.proofs.Passed.{Passed}
use Rattle.head.specs.declared.Head.{Head}
use Rattle.head.specs.Encodable.{Encodable}
use Rattle.register.specs.Word.{byte_a, byte_b, byte_c}
use Rattle.clock_read.specs.Hpsys.{reg, hertz, ready_reading, dll_reading, divided_reading, sys_of, hclk_of}
use Rattle.clock_read.proofs.Codes.{dll1_stage}
use Rattle.dvfs.specs.declared.hpsys.HpsysDvfsMode.{HpsysDvfsMode}
use Rattle.dvfs.specs.declared.hpsys.HpsysDvfsMode.TheVariants.{D0, D1, S0, S1}
use Rattle.dvfs.specs.Hpsys.{mode_of}
use Rattle.fit.specs.rail.{limit_hz}
use Rattle.guard_steps.specs.peak.{mode_at, highest, peak_of}

pub apart : true ≡ false → ⊥
apart e = let z : ◌≡◌ {A = ℕ} 0 1 = cc in omega arith

-- a test passes at each number below `n`
abbrev all : ℕ → (ℕ → Bool) → Bool
all zero f = true
all (suc n) f = f n && all n f

all_at : (n : ℕ) (f : ℕ → Bool) → all n f ≡ true → (k : ℕ) → k < n → f k ≡ true
all_at zero f t k h = absurd (not-suc-le-zero h)
all_at (suc n) f t k h = last (all_at n f (and_right (f n) (all n f) t) k) (dec_lt k n)
  where
    last : (k < n → f k ≡ true) → Dec (k < n) → f k ≡ true
    last below (yes l) = below l
    last below (no l) = subst (λ (m : ℕ). f m ≡ true) (omega arith) (and_left (f n) (all n f) t)

-- an HCLK of at most 240 MHz is at most its mode's limit
abbrev pub WholeMegahertz : ℕ → Type 0
WholeMegahertz x = x ≤ 240000000 → x ≤ limit_hz (mode_at x)

abbrev good : ℕ → Bool
good x = cond (leb x 240000000) (leb x (limit_hz (mode_at x))) true

good_whole : (x : ℕ) → good x ≡ true → WholeMegahertz x
good_whole x t h = leb-true x (limit_hz (mode_at x)) (subst (λ (b : Bool). cond b (leb x (limit_hz (mode_at x))) true ≡ true) (le-leb x 240000000 h) t)

abbrev table : Bool → Bool
table half = all 16 (λ (s : ℕ). all 16 (λ (d : ℕ). good (divided (dll_hz s half) d)))

tabled : (half : Bool) → table half ≡ true
unfolding divided dll_hz mode_at mode_of
tabled true = refl
tabled false = refl

-- a divider of 16 or more gives at most 24 MHz
far : (f d : ℕ) → f ≤ 384000000 → 16 ≤ d → divided f d ≤ 24000000
unfolding divided
far f d p q = go (eqb d 0) refl
  where
    go : (t : Bool) → eqb d 0 ≡ t → cond t f (f / d) ≤ 24000000
    go true e = let z = eqb-true d 0 e in absurd (omega arith)
    go false e = div-le_of_le-mul d (omega arith)

limit_least : (m : HpsysDvfsMode) → 24000000 ≤ limit_hz m
limit_least D0 = omega arith
limit_least D1 = omega arith
limit_least S0 = omega arith
limit_least S1 = omega arith

pub dll_whole : (s : ℕ) (half : Bool) (d : ℕ) → s ≤ 15 → WholeMegahertz (divided (dll_hz s half) d)
dll_whole s half d p top = go (dec_lt d 16)
  where
    go : Dec (d < 16) → divided (dll_hz s half) d ≤ limit_hz (mode_at (divided (dll_hz s half) d))
    go (yes l) =
        let stage = all_at 16 (λ (s : ℕ). all 16 (λ (d : ℕ). good (divided (dll_hz s half) d))) (tabled half) s (omega arith) in
        good_whole (divided (dll_hz s half) d) (all_at 16 (λ (d : ℕ). good (divided (dll_hz s half) d)) stage d l) top
    go (no l) = omega (arith, far (dll_hz s half) d (dll_most s half p) (omega arith), limit_least (mode_at (divided (dll_hz s half) d)))

pub whole_48 : (d : ℕ) → WholeMegahertz (divided 48000000 d)
unfolding dll_hz
whole_48 d = dll_whole 1 false d (omega arith)

-- what an HCLK that reads is: not 0, and clean
pub record Clock (x : ℕ) : Type 0 where
  pub positive : 0 < x
  pub clean : WholeMegahertz x

clock_48 : (d : ℕ) → d ≤ 255 → Clock (divided 48000000 d)
clock_48 d h = record { positive = omega (arith, divided_least 48000000 48000000 d h (omega arith)); clean = whole_48 d }

clock_dll : (s : ℕ) (half : Bool) (d : ℕ) → s ≤ 15 → d ≤ 255 → Clock (divided (dll_hz s half) d)
clock_dll s half d p h = record { positive = omega (arith, divided_least 12000000 (dll_hz s half) d h (dll_least s half)); clean = dll_whole s half d p }

-- a source whose clock behind the divider `d` is such a one
data Source (d : ℕ) : Option Hertz → Type 0 where
  reads : (f : ℕ) → Clock (divided f d) → Source d (hertz f)
  none : Source d None

module _ (d : ℕ) where
  by_cond : (t : Bool) {x y : Option Hertz} → Source d x → Source d y → Source d (cond t x y)
  by_cond true p q = p
  by_cond false p q = q

  module _ (h : d ≤ 255) where
    ready_source : (t : Bool) → Source d (ready_reading t)
    ready_source t = by_cond t (reads 48000000 (clock_48 d h)) none

    dll_source : (w : ℕ) → byte_c w ≤ 15 → Source d (dll_reading w)
    unfolding dll_reading
    dll_source w p = by_cond (eqb (byte_a w) 1) (reads _ (clock_dll (byte_c w) (eqb (byte_b w) 1) d p h)) none

    sys_source : (g : Head) → Encodable g → Source d (sys_of g)
    unfolding sys_of
    sys_source g ok =
        by_cond (eqb (reg g 1) 0) (ready_source g.hrc48_ready)
        (by_cond (eqb (reg g 1) 1) (ready_source g.hxt48_ready)
        (by_cond (eqb (reg g 1) 3) (dll_source (reg g 3) (dll1_stage g ok)) none))

  source_clock : {r : Option Hertz} (f : ℕ) → Source d r → divided_reading r d ≡ hertz f → Clock f
  source_clock f (reads g c) q = subst Clock (ap (hz_or 0) q) c
  source_clock f none q = let z : ◌≡◌ {A = ℕ} 0 1 = cc in absurd (omega arith)

-- the present HCLK
pub present_clock : (h : Head) → Encodable h → (f : ℕ) → hclk_of h ≡ hertz f → Clock f
unfolding hclk_of
present_clock h ok f e = source_clock (byte_a (reg h 2)) f (sys_source (byte_a (reg h 2)) (omega arith) h ok) e

-- a legal plan's select, dividers and DLL1
pub record Coded (p : Plan) : Type 0 where
  pub sys : p.sys ≤ 3
  pub hdiv : p.hdiv ≤ 255
  pub pdiv1 : p.pdiv1 ≤ 7
  pub pdiv2 : p.pdiv2 ≤ 7
  pub stage : (d : Dll) → p.dll1 ≡ Some d → d.stage ≤ 15

pub codes_of_lem : (p : Plan) → legal p ≡ true → Coded p
unfolding legal encoded
codes_of_lem p e =
    let at = within_at (drop 3 (encoded p)) largest_of_plan e in
    record { sys = at 0; hdiv = at 1; pdiv1 = at 2; pdiv2 = at 3; stage = λ d q. rw q at (at 5) }

-- the clock of an accepted plan
pub target_clock : (p : Plan) → Passed p → hclk_hz p ≤ limit_hz (mode_at (hclk_hz p))
unfolding hclk_hz sys_hz hclk_too_fast core_on_absent_dll1
target_clock p ok = go (eqb p.sys 3) p.dll1 (codes_of_lem p ok.test_3).stage ok.test_4 (ltb-false 240000000 (hclk_hz p) ok.test_11)
  where
    go : (t : Bool) (m : Option Dll) → ((d : Dll) → m ≡ Some d → d.stage ≤ 15) → (t && is_absent m) ≡ false → WholeMegahertz (divided (cond t (maybe_hz m) 48000000) p.hdiv)
    go true None c e = absurd (apart e)
    go true (Some d) c e = dll_whole d.stage d.half p.hdiv (c d refl)
    go false m c e = whole_48 p.hdiv

-- the higher of two modes
above : (m n : HpsysDvfsMode) → (limit_hz m ≤ limit_hz (highest m n)) × (limit_hz n ≤ limit_hz (highest m n))
unfolding highest
above D0 D0 = (omega arith, omega arith)
above D0 D1 = (omega arith, omega arith)
above D0 S0 = (omega arith, omega arith)
above D0 S1 = (omega arith, omega arith)
above D1 D0 = (omega arith, omega arith)
above D1 D1 = (omega arith, omega arith)
above D1 S0 = (omega arith, omega arith)
above D1 S1 = (omega arith, omega arith)
above S0 D0 = (omega arith, omega arith)
above S0 D1 = (omega arith, omega arith)
above S0 S0 = (omega arith, omega arith)
above S0 S1 = (omega arith, omega arith)
above S1 D0 = (omega arith, omega arith)
above S1 D1 = (omega arith, omega arith)
above S1 S0 = (omega arith, omega arith)
above S1 S1 = (omega arith, omega arith)

-- the peak's limit is at least the present mode's, 48 MHz and the target's
pub record Peak (here there limit : ℕ) : Type 0 where
  pub from : limit_hz (mode_at here) ≤ limit
  pub half : 48000000 ≤ limit
  pub to : limit_hz (mode_at there) ≤ limit

pub peak_is : (here there : ℕ) → Peak here there (limit_hz (peak_of here there))
unfolding peak_of
peak_is here there =
    let a = above (mode_at here) D1 in
    let b = above (highest (mode_at here) D1) (mode_at there) in
    record { from = omega (arith, a.0, b.0); half = omega (arith, a.1, b.0); to = b.1 }
