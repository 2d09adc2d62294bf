-- Steps (2) to (7) of a guarded change: flash selects leave DLL1, the core goes to HXT48, DLL1 is set anew, and both come back.
use Prim.Native.Nat.{ℕ, zero, suc, ◌≤◌}
use mathlib.Core.Path.{◌≡◌, refl, ◌∙◌, subst}
use mathlib.Core.Bool.{Bool, true, false, cond, ◌&&◌, ◌||◌}
use mathlib.Core.List.{List, [], ◌∷◌}
use native.Mathlib.Omega.{arith}
use lib.Dec.{eqb, lit<}
use borrow.Author.Tests.{eqb-true, eq-eqb, le-leb}
use Rattle.std.specs.Prelude.{Option, Some, None}
use Rattle.record.specs.Bytes.{is_within, bit}
use Rattle.clock.specs.declared.Dll.{Dll}
use Rattle.clock.specs.Clock.{divided}
use Rattle.clock.proofs.Laws.{divided_most}
use Rattle.plan.specs.declared.Plan.{Plan}
use Rattle.plan_clocks.specs.Clocks.{maybe_hz, sys_hz, hclk_hz}
use Rattle.limits.specs.Limits.{is_absent, core_on_absent_dll1, core_on_dbl96}
use Rattle.verdict.proofs.Passed.{Passed}
use Rattle.register.specs.Word.{word_of, word_bytes, byte_a, byte_b, byte_c}
use Rattle.register.specs.Codes.{largest, fits_register}
use Rattle.register.proofs.Fits.{word_fits}
use Rattle.head.specs.declared.Head.{Head}
use Rattle.head.specs.Encodable.{Encodable}
use Rattle.clock_read.specs.Hpsys.{reg, hertz, ready_reading, dll_reading, divided_reading}
use Rattle.clock_read.proofs.Codes.{byte_most}
use Rattle.fit.specs.Fit.{source_is_on}
use Rattle.journal.specs.Run.{Run, idle, store, delay, Poll, ready_after, never_ready, more, poll}
use Rattle.dll.specs.Dll.{hpbg_on, vddpsw_on, dll_off, dll_on, relocked, set_dll, configure_dll}
use Rattle.dll.proofs.Fits.{dll_fits, dll_codes, hpbg_fits, vddpsw_fits}
use Rattle.core_clock.proofs.dividers.Fits.{dividers_fit, select_fits, sys_fits}
use Rattle.core_clock.specs.dividers.{dividers}
use Rattle.core_clock.specs.CoreClock.{planned_dll1}
use Rattle.guard_steps.specs.peak.{mode_at}
use Rattle.guard_steps.specs.flash.{on_dll1, away, moved}
use Rattle.guard_steps.specs.Steps.{leave_dll1, to_hxt48, to_planned, back_to}
use Rattle.fit.specs.rail.{limit_hz}
use Rattle.claim.specs.Moment.{Ready, one_ready, stop_for, taken_for}
use Rattle.claim.proofs.changes.WholeMegahertz.{apart, Coded, codes_of_lem, target_clock}
use Rattle.claim.proofs.changes.View.{Regs, view, put, Flash, clock_of, Fit}
use Rattle.claim.proofs.changes.Progress.{Progress, progress_now, progress_store, progress_delay, progress_if, progress_wait, stop_of}

-- a select that is not DLL1, or is moved away, asks nothing of DLL1; DLL1 that is on serves whatever any DLL1 served
lit_free : (s d e dll2 : ℕ) → eqb s 1 ≡ false → source_is_on s d dll2 ≡ true → source_is_on s e dll2 ≡ true
unfolding source_is_on
lit_free s d e dll2 n t = rw n (rw n at t)

lit_away : (s d e dll2 : ℕ) → source_is_on s d dll2 ≡ true → source_is_on (away s) e dll2 ≡ true
unfolding source_is_on
lit_away s d e dll2 t = go (eqb s 1) refl t
  where
    go : (b : Bool) → eqb s 1 ≡ b → cond b (eqb (byte_a d) 1) (cond (eqb s 2) (eqb (byte_a dll2) 1) true) ≡ true → source_is_on (cond b 0 s) e dll2 ≡ true
    go true q t = refl
    go false q t = rw q t

lit_on : (s d e dll2 : ℕ) → byte_a e ≡ 1 → source_is_on s d dll2 ≡ true → source_is_on s e dll2 ≡ true
unfolding source_is_on
lit_on s d e dll2 on = go (eqb s 1)
  where
    go : (b : Bool) → cond b (eqb (byte_a d) 1) (cond (eqb s 2) (eqb (byte_a dll2) 1) true) ≡ true → cond b (eqb (byte_a e) 1) (cond (eqb s 2) (eqb (byte_a dll2) 1) true) ≡ true
    go true t = eq-eqb (byte_a e) 1 on
    go false t = t

away_most : (s n : ℕ) → s ≤ n → away s ≤ n
away_most s n h = go (eqb s 1)
  where
    go : (b : Bool) → cond b 0 s ≤ n
    go true = omega arith
    go false = h

moved_fits : (g : Head) → Encodable g → fits_register 5 (moved (reg g 5)) ≡ true
unfolding is_within largest word_bytes
moved_fits g ok =
    let b = away_most (byte_b (reg g 5)) 3 (byte_most g ok 5 (omega arith) 1) in
    let c = away_most (byte_c (reg g 5)) 3 (byte_most g ok 5 (omega arith) 2) in
    word_fits 5 0 (away (byte_b (reg g 5))) (away (byte_c (reg g 5))) (simp (le-leb _ 3 b, le-leb _ 3 c))

moved_bytes : (w : ℕ) → (byte_b (moved w) ≡ away (byte_b w)) × (byte_c (moved w) ≡ away (byte_c w))
moved_bytes w =
    let b = away_most (byte_b w) 255 (omega arith) in
    let c = away_most (byte_c w) 255 (omega arith) in
    (omega arith, omega arith)

flash_moved : (w d e dll2 : ℕ) → Flash w d dll2 → Flash (moved w) e dll2
flash_moved w d e dll2 t =
    let b = moved_bytes w in
    record { one = rw b.0 (lit_away (byte_b w) d e dll2 t.one); two = rw b.1 (lit_away (byte_c w) d e dll2 t.two) }

flash_free : (w d e dll2 : ℕ) → on_dll1 w ≡ false → Flash w d dll2 → Flash w e dll2
flash_free w d e dll2 n t = go (eqb (byte_b w) 1) (eqb (byte_c w) 1) refl refl n
  where
    go : (p q : Bool) → eqb (byte_b w) 1 ≡ p → eqb (byte_c w) 1 ≡ q → (p || q) ≡ false → Flash w e dll2
    go false false p q n = record { one = lit_free (byte_b w) d e dll2 p t.one; two = lit_free (byte_c w) d e dll2 q t.two }
    go false true p q n = absurd (apart n)
    go true q p u n = absurd (apart n)

flash_on : (w d e dll2 : ℕ) → byte_a e ≡ 1 → Flash w d dll2 → Flash w e dll2
flash_on w d e dll2 on t = record { one = lit_on (byte_b w) d e dll2 on t.one; two = lit_on (byte_c w) d e dll2 on t.two }

-- DLL1's word, off and on
off_fits : (g : Head) → Encodable g → fits_register 3 (word_of 0 (byte_b (reg g 3)) (byte_c (reg g 3))) ≡ true
off_fits g ok = let c = dll_codes 3 g ok (omega arith) (omega arith) in dll_fits 3 0 (byte_b (reg g 3)) (byte_c (reg g 3)) (omega arith) (omega arith) (omega arith) c.0 c.1

abbrev pub dll_word : Dll → ℕ
dll_word d = word_of 1 (bit d.half) d.stage

-- the DLL1 that a plan has, once it is set
abbrev pub Locked : Option Dll → ℕ → Type 0
Locked None w = Unit {0}
Locked (Some d) w = w ≡ dll_word d

-- no flash select needs DLL1; the former selects `w` are served by DLL1 as it is; they would be by any that is on
abbrev Free : Regs → Type 0
Free x = (d : ℕ) → Flash (x 5) d (x 4)

abbrev Was : ℕ → Regs → Type 0
Was w x = Flash w (x 3) (x 4)

abbrev Could : ℕ → Regs → Type 0
Could w x = (d : ℕ) → byte_a d ≡ 1 → Flash w d (x 4)

-- HCLK on HXT48
hxt_clock : (h : Head) → h.hxt48_ready ≡ true → (v d k : ℕ) → k ≡ 1 → clock_of h k v d ≡ hertz (divided 48000000 (byte_a v))
hxt_clock h on v d k e = rw (e, on)

-- on HXT48 DLL1 may be anything
dll_fit : (h : Head) {f top : ℕ} (v : ℕ) (x : Regs) → Fit h f top x → Free x → x 1 ≡ 1 → Fit h f top (put x 3 v)
dll_fit h v x a free k =
    let same : clock_of h (x 1) (x 2) v ≡ clock_of h (x 1) (x 2) (x 3) = rw k in
    record { reads = same ∙ a.reads; below = a.below; rails = a.rails; flash = free v; low = a.low }

pub record On (d : Dll) : Type 0 where
  pub on : byte_a (dll_word d) ≡ 1
  pub half : eqb (byte_b (dll_word d)) 1 ≡ d.half
  pub stage : byte_c (dll_word d) ≡ d.stage
  pub fits : fits_register 3 (dll_word d) ≡ true

pub on_word : (d : Dll) → d.stage ≤ 15 → On d
on_word d l = record { on = (go d.half).0; half = halves d.half; stage = (go d.half).1; fits = fit d.half }
  where
    go : (b : Bool) → (byte_a (word_of 1 (bit b) d.stage) ≡ 1) × (byte_c (word_of 1 (bit b) d.stage) ≡ d.stage)
    go true = (omega arith, omega arith)
    go false = (omega arith, omega arith)

    fit : (b : Bool) → fits_register 3 (word_of 1 (bit b) d.stage) ≡ true
    fit true = dll_fits 3 1 1 d.stage (omega arith) (omega arith) (omega arith) (omega arith) l
    fit false = dll_fits 3 1 0 d.stage (omega arith) (omega arith) (omega arith) (omega arith) l

    halves : (b : Bool) → eqb (byte_b (word_of 1 (bit b) d.stage)) 1 ≡ b
    halves true = let e : byte_b (word_of 1 1 d.stage) ≡ 1 = omega arith in rw e
    halves false = let e : byte_b (word_of 1 0 d.stage) ≡ 0 = omega arith in rw e

module _ (h : Head) (w : ℕ) {s t f top : ℕ} where
  -- (2)
  pub leave_safe : (r : Run) → Progress h s t f top (λ (x : Regs). x 5 ≡ w) r → Progress h s t f top (λ (x : Regs). Free x × Was w x) (leave_dll1 r)
  unfolding leave_dll1
  leave_safe r c =
      progress_if h (on_dll1 (reg r.head 5)) (store 5 (moved (reg r.head 5))) idle r
      (λ e. progress_store h 5 (λ (x : Regs). moved (x 5)) (lit< tt) refl moved_fits (λ x a q. (
        record { reads = a.reads; below = a.below; rails = a.rails; flash = flash_moved (x 5) (x 3) (x 3) (x 4) a.flash; low = a.low },
        (λ d. flash_moved (x 5) (x 3) d (x 4) a.flash, rw q at a.flash),
      )) r c)
      (λ e. progress_now h r (λ a q. (a, (λ d. flash_free (reg r.head 5) (reg r.head 3) d (reg r.head 4) e a.flash, rw q at a.flash))) c)

  -- (3)
  pub to_hxt48_safe : h.hxt48_ready ≡ true → 48000000 ≤ top → (r : Run) → Progress h s t f top (λ (x : Regs). Free x × Was w x) r →
      Progress h s t (divided 48000000 (byte_a (reg r.head 2))) top (λ (x : Regs). Free x × Was w x × (x 1 ≡ 1)) (to_hxt48 r)
  unfolding to_hxt48
  to_hxt48_safe on wide r c =
      progress_if h (eqb (reg r.head 1) 1) idle (store 1 1) r
      (λ e. let k = eqb-true (reg r.head 1) 1 e in
      let reads = hxt_clock h on (reg r.head 2) (reg r.head 3) (reg r.head 1) k in
      progress_now h r (λ a q. (record { reads = reads; below = low; rails = a.rails; flash = a.flash; low = a.low }, (q.0, q.1, k))) c)
      (λ e. progress_store h 1 (λ (x : Regs). 1) (lit< tt) refl (λ _ _. select_fits 1 (omega arith)) (λ x a q. (
        record { reads = rw q.1 (hxt_clock h on (reg r.head 2) (x 3) 1 refl); below = low; rails = a.rails; flash = a.flash; low = a.low },
        (q.0.0, q.0.1, refl),
      )) r (progress_now h {Q' = λ (x : Regs). (Free x × Was w x) × (x 2 ≡ reg r.head 2)} r (λ a q. (a, (q, refl))) c))
    where
      low : divided 48000000 (byte_a (reg r.head 2)) ≤ top
      low = omega (arith, divided_most 48000000 (byte_a (reg r.head 2)))

  -- (4), its stores: the bandgap's, then DLL1 off and on
  bandgap : {Q : Regs → Type 0} (v : Regs → ℕ) → ((g : Head) → Encodable g → fits_register 11 (v (view g.regs)) ≡ true) → ((x : Regs) (u : ℕ) → Q x → Q (put x 11 u)) →
      (r : Run) → Progress h s t f top Q r → Progress h s t f top Q (store 11 (v (view r.head.regs)) r)
  bandgap v vs g = progress_store h 11 v (lit< tt) refl vs (λ x a q. (record { reads = a.reads; below = a.below; rails = a.rails; flash = a.flash; low = a.low }, g x (v x) q))

  hpbg_safe : {Q : Regs → Type 0} → ((x : Regs) (u : ℕ) → Q x → Q (put x 11 u)) → (r : Run) → Progress h s t f top Q r → Progress h s t f top Q (hpbg_on r)
  unfolding hpbg_on
  hpbg_safe g r c =
      progress_if h (eqb (byte_b (reg r.head 11)) 0) (store 11 (word_of 0 1 (byte_c (reg r.head 11)))) idle r
      (λ e. bandgap (λ (x : Regs). word_of 0 1 (byte_c (x 11))) hpbg_fits g r c) (λ e. c)

  vddpsw_safe : {Q : Regs → Type 0} → ((x : Regs) (u : ℕ) → Q x → Q (put x 11 u)) → (r : Run) → Progress h s t f top Q r → Progress h s t f top Q (vddpsw_on r)
  unfolding vddpsw_on
  vddpsw_safe g r c =
      progress_if h (eqb (byte_c (reg r.head 11)) 0) (store 11 (word_of 0 (byte_b (reg r.head 11)) 1)) idle r
      (λ e. bandgap (λ (x : Regs). word_of 0 (byte_b (x 11)) 1) vddpsw_fits g r c) (λ e. c)

  off_safe : (r : Run) → Progress h s t f top (λ (x : Regs). Free x × Was w x × (x 1 ≡ 1)) r → Progress h s t f top (λ (x : Regs). Free x × Could w x × (x 1 ≡ 1)) (dll_off 3 r)
  unfolding dll_off
  off_safe = progress_store h 3 (λ (x : Regs). word_of 0 (byte_b (x 3)) (byte_c (x 3))) (lit< tt) refl off_fits (λ x a q.
      (dll_fit h (word_of 0 (byte_b (x 3)) (byte_c (x 3))) x a q.0 q.2, (q.0, λ d on. flash_on w (x 3) d (x 4) on q.1, q.2)))

  on_safe : (d : Dll) → d.stage ≤ 15 → (r : Run) → Progress h s t f top (λ (x : Regs). Free x × Could w x × (x 1 ≡ 1)) r →
      Progress h s t f top (λ (x : Regs). Free x × Was w x × (x 1 ≡ 1) × Locked (Some d) (x 3)) (dll_on 3 d r)
  unfolding dll_on
  on_safe d l = progress_store h 3 (λ (x : Regs). dll_word d) (lit< tt) refl (λ _ _. (on_word d l).fits) (λ x a q.
      (dll_fit h (dll_word d) x a q.0 q.2, (q.0, q.1 (dll_word d) (on_word d l).on, q.2, refl)))

-- a wait ends exactly if one of the answers is ready
pub polled : (a : List ℕ) → stop_of (poll a) ≡ cond (one_ready a) 0 36
unfolding poll one_ready
polled [] = refl
polled (x ∷ a) = by (eqb x 0) (poll a) (polled a)
  where
    by : (t : Bool) (q : Poll) → stop_of q ≡ cond (one_ready a) 0 36 → stop_of (cond t (more q) (ready_after 1)) ≡ cond (cond t (one_ready a) true) 0 36
    by true (ready_after n) e = e
    by true never_ready e = e
    by false q e = refl

-- (4)
module _ (h : Head) (w : ℕ) {f top : ℕ} (a : List ℕ) where
  pub dll1_safe : (m : Option Dll) → ((d : Dll) → m ≡ Some d → d.stage ≤ 15) → (r : Run) → Progress h 0 0 f top (λ (x : Regs). Free x × Was w x × (x 1 ≡ 1)) r →
      Progress h (stop_for m a) (taken_for m a) f top (λ (x : Regs). Free x × Was w x × (x 1 ≡ 1) × Locked m (x 3)) (planned_dll1 m a r)
  unfolding configure_dll set_dll relocked
  dll1_safe None l r c = progress_now h r (λ b q. (b, (q.0, q.1, q.2, tt))) c
  dll1_safe (Some d) l r c =
      let r1 = vddpsw_on (hpbg_on r) in
      let c1 = vddpsw_safe h w (λ x u q. q) (hpbg_on r) (hpbg_safe h w (λ x u q. q) r c) in
      let r2 = dll_on 3 d (dll_off 3 r1) in
      let c2 = on_safe h w d (l d refl) (dll_off 3 r1) (off_safe h w r1 c1) in
      subst (λ (n : ℕ). Progress h n (taken_for (Some d) a) f top (λ (x : Regs). Free x × Was w x × (x 1 ≡ 1) × Locked (Some d) (x 3)) (planned_dll1 (Some d) a r))
      (polled a) (progress_wait h 3 a (delay 10 r2) (progress_delay h 10 r2 c2))

-- a plan's dividers
abbrev pub div_word : Plan → ℕ
div_word p = word_of p.hdiv p.pdiv1 p.pdiv2

div_word_lem : (p : Plan) → Coded p → byte_a (div_word p) ≡ p.hdiv
div_word_lem p k =
    let b = k.pdiv1 in
    let c = k.pdiv2 in
    omega (arith, k.hdiv)

-- registers 1 to 3 as a plan has them
pub record Planned (p : Plan) (s v d : ℕ) : Type 0 where
  pub sysclk : s ≡ p.sys
  pub dividers : v ≡ div_word p
  pub dll1 : Locked p.dll1 d

module _ (h : Head) (p : Plan) (ok : Passed p) (y : Ready p h) where
  -- HCLK is the plan's once its registers are set
  plan_clock : (v d : ℕ) → v ≡ div_word p → Locked p.dll1 d → clock_of h p.sys v d ≡ hertz (hclk_hz p)
  unfolding hclk_hz sys_hz core_on_absent_dll1 core_on_dbl96 dll_reading
  plan_clock v d e l =
      rw (e, div_word_lem p k) (go p.sys p.dll1 k.sys ok.test_4 ok.test_5 y.hrc48 k.stage l)
    where
      k : Coded p
      k = codes_of_lem p ok.test_3

      go : (s : ℕ) (m : Option Dll) → s ≤ 3 → (eqb s 3 && is_absent m) ≡ false → eqb s 2 ≡ false → (s ≡ 0 → h.hrc48_ready ≡ true) →
          ((d : Dll) → m ≡ Some d → d.stage ≤ 15) → Locked m d →
          divided_reading (cond (eqb s 0) (ready_reading h.hrc48_ready) (cond (eqb s 1) (ready_reading h.hxt48_ready) (cond (eqb s 3) (dll_reading d) None))) p.hdiv
          ≡ hertz (divided (cond (eqb s 3) (maybe_hz m) 48000000) p.hdiv)
      go zero m a b c r g l = rw (r refl)
      go (suc zero) m a b c r g l = rw y.hxt48
      go (suc (suc zero)) m a b c r g l = absurd (apart c)
      go (suc (suc (suc zero))) None a b c r g l = absurd (apart b)
      go (suc (suc (suc zero))) (Some n) a b c r g l = let o = on_word n (g n refl) in rw (l, o.on, o.half, o.stage)
      go (suc (suc (suc (suc s)))) m a b c r g l = absurd (omega arith)

  module _ (w : ℕ) {s t f top : ℕ} where
    -- (5)
    pub dividers_safe : 48000000 ≤ top → (r : Run) → Progress h s t f top (λ (x : Regs). Free x × Was w x × (x 1 ≡ 1) × Locked p.dll1 (x 3)) r →
        Progress h s t (divided 48000000 (byte_a (div_word p))) top (λ (x : Regs). Was w x × (x 2 ≡ div_word p) × Locked p.dll1 (x 3)) (dividers p r)
    unfolding dividers
    dividers_safe wide = progress_store h 2 (λ (x : Regs). div_word p) (lit< tt) refl (λ _ _. dividers_fit p ok.test_3) (λ x a q. (
      record {
        reads = hxt_clock h y.hxt48 (div_word p) (x 3) (x 1) q.2;
        below = omega (arith, divided_most 48000000 (byte_a (div_word p)));
        rails = a.rails;
        flash = a.flash;
        low = a.low;
      },
      (q.1, refl, q.3),
    ))

    -- (6)
    pub planned_safe : limit_hz (mode_at (hclk_hz p)) ≤ top → (r : Run) → Progress h s t f top (λ (x : Regs). Was w x × (x 2 ≡ div_word p) × Locked p.dll1 (x 3)) r →
        Progress h s t (hclk_hz p) top (λ (x : Regs). Was w x × Planned p (x 1) (x 2) (x 3)) (to_planned p r)
    unfolding to_planned
    planned_safe wide = progress_store h 1 (λ (x : Regs). p.sys) (lit< tt) refl (λ _ _. sys_fits p ok.test_3) (λ x a q. (
      record { reads = plan_clock (x 2) (x 3) q.1 q.2; below = omega (arith, target_clock p ok); rails = a.rails; flash = a.flash; low = a.low },
      (q.0, record { sysclk = refl; dividers = q.1; dll1 = q.2 }),
    ))

-- (7)
module _ (h : Head) (w : ℕ) {s t f top : ℕ} (G : ℕ → ℕ → ℕ → Type 0) where
  pub back_safe : fits_register 5 w ≡ true → (r : Run) → Progress h s t f top (λ (x : Regs). Was w x × G (x 1) (x 2) (x 3)) r →
      Progress h s t f top (λ (x : Regs). G (x 1) (x 2) (x 3)) (back_to w r)
  unfolding back_to
  back_safe fits r c =
      progress_if h (on_dll1 w) (store 5 w) idle r
      (λ e. progress_store h 5 (λ (x : Regs). w) (lit< tt) refl (λ _ _. fits) (λ x a q. (record { reads = a.reads; below = a.below; rails = a.rails; flash = q.0; low = a.low }, q.1)) r c)
      (λ e. progress_now h r (λ a q. (a, q.1)) c)
