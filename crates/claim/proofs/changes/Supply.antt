-- Steps (1) and (8) of a guarded change: the supply goes up to the peak's row, and down to the target's.
use Prim.Native.Nat.{ℕ, ◌<◌, ◌≤◌}
use mathlib.Core.Path.{◌≡◌, refl}
use mathlib.Core.Bool.{true}
use native.Mathlib.Omega.{arith}
use lib.Dec.{ltb, lit<}
use borrow.Author.Tests.{ltb-true, ltb-false}
use Rattle.register.specs.Codes.{fits_register}
use Rattle.head.specs.declared.Head.{Head}
use Rattle.journal.specs.Run.{Run, ◌▸◌, idle, store, delay}
use Rattle.dvfs.specs.declared.hpsys.HpsysDvfsMode.{HpsysDvfsMode}
use Rattle.dvfs.specs.declared.hpsys.HpsysDvfsMode.TheVariants.{D0, D1, S0, S1}
use Rattle.dvfs.specs.Hpsys.{row_of}
use Rattle.dvfs_hpsys.specs.volts.{vref_of, sx_mode_volt, timing}
use Rattle.dvfs_hpsys.proofs.volts.Rows.{buck_fits, ldo_fits, vref_fits, timing_fits, supply_fits}
use Rattle.dvfs_hpsys.specs.switch.{d2s_first, s2d_first, s2d_second}
use Rattle.fit.specs.rail.{limit_hz, ldo_of, rail_of, rail_limit}
use Rattle.guard_steps.specs.supply.{raising, raise, target_rails}
use Rattle.claim.proofs.changes.Rails.{Of, first, second, buck, up_s, down_s, at_s, up_d, down_d, at_d}
use Rattle.claim.proofs.changes.View.{Regs, put, rail}
use Rattle.claim.proofs.changes.Progress.{Progress, progress_now, progress_store, progress_delay, progress_if}

-- what is said of registers 1 to 3 and 5, which no step of a supply stores
abbrev Other : (ℕ → ℕ → ℕ → ℕ → Type 0) → Regs → Type 0
Other F x = F (x 1) (x 2) (x 3) (x 5)

module _ (h : Head) {s t f : ℕ} (F : ℕ → ℕ → ℕ → ℕ → Type 0) where
  -- buck and ldo of a supply: the rails carry `k` after the first store, `k'` after the second
  module _ (b l k k' : ℕ) (p : f ≤ k) (p' : f ≤ k') {top : ℕ} {R : Regs → Type 0} where
    volts_s : fits_register 13 b ≡ true → fits_register 14 l ≡ true →
        ((x : Regs) → top ≤ rail h x → R x → (k ≤ rail_of (x 12) b (x 14) (x 15) (x 16)) × (k' ≤ rail_of (x 12) b l (x 15) (x 16))) →
        (r : Run) → Progress h s t f top (λ (x : Regs). Other F x × R x) r → Progress h s t f k' (λ (x : Regs). Other F x × ((x 13 ≡ b) × (x 14 ≡ l))) ((store 13 b ▸ store 14 l) r)
    volts_s bs ls g r c =
        let mid : Progress h s t f k (λ (x : Regs). Other F x × ((x 13 ≡ b) × (k' ≤ rail_of (x 12) b l (x 15) (x 16)))) (store 13 b r) =
        progress_store h 13 (λ (x : Regs). b) (lit< tt) refl (λ _ _. bs) (λ x a q. let n = g x a.rails q.1 in
        (record { reads = a.reads; below = p; rails = n.0; flash = a.flash; low = a.low }, (q.0, (refl, n.1)))) r c in
        progress_store h 14 (λ (x : Regs). l) (lit< tt) refl (λ _ _. ls) (λ x a q.
        (record { reads = a.reads; below = p'; rails = rw q.1.0 q.1.1; flash = a.flash; low = a.low }, (q.0, (q.1.0, refl)))) (store 13 b r) mid

    volts_d : fits_register 15 b ≡ true → fits_register 16 l ≡ true →
        ((x : Regs) → top ≤ rail h x → R x → (k ≤ rail_of (x 12) (x 13) (x 14) b (x 16)) × (k' ≤ rail_of (x 12) (x 13) (x 14) b l)) →
        (r : Run) → Progress h s t f top (λ (x : Regs). Other F x × R x) r → Progress h s t f k' (λ (x : Regs). Other F x × ((x 15 ≡ b) × (x 16 ≡ l))) ((store 15 b ▸ store 16 l) r)
    volts_d bs ls g r c =
        let mid : Progress h s t f k (λ (x : Regs). Other F x × ((x 15 ≡ b) × (k' ≤ rail_of (x 12) (x 13) (x 14) b l))) (store 15 b r) =
        progress_store h 15 (λ (x : Regs). b) (lit< tt) refl (λ _ _. bs) (λ x a q. let n = g x a.rails q.1 in
        (record { reads = a.reads; below = p; rails = n.0; flash = a.flash; low = a.low }, (q.0, (refl, n.1)))) r c in
        progress_store h 16 (λ (x : Regs). l) (lit< tt) refl (λ _ _. ls) (λ x a q.
        (record { reads = a.reads; below = p'; rails = rw q.1.0 q.1.1; flash = a.flash; low = a.low }, (q.0, (q.1.0, refl)))) (store 15 b r) mid

  -- the supply itself, and the timing, which no reading looks at
  module _ (v : ℕ) {top : ℕ} {R : Regs → Type 0} where
    supply : (k : ℕ) → fits_register 12 v ≡ true → f ≤ k → ((x : Regs) → R x → k ≤ rail_of v (x 13) (x 14) (x 15) (x 16)) →
        (r : Run) → Progress h s t f top (λ (x : Regs). Other F x × R x) r → Progress h s t f k (λ (x : Regs). Other F x) (store 12 v r)
    supply k vs p g =
        progress_store h 12 (λ (x : Regs). v) (lit< tt) refl (λ _ _. vs) (λ x a q. (record { reads = a.reads; below = p; rails = g x q.1; flash = a.flash; low = a.low }, q.0))

    timed : fits_register 17 v ≡ true → ((x : Regs) → R x → R (put x 17 v)) → (r : Run) → Progress h s t f top R r → Progress h s t f top R (store 17 v r)
    timed vs g =
        progress_store h 17 (λ (x : Regs). v) (lit< tt) refl (λ _ _. vs) (λ x a q. (record { reads = a.reads; below = a.below; rails = a.rails; flash = a.flash; low = a.low }, g x q))

  module _ {m : HpsysDvfsMode} (p : f ≤ limit_hz m) where
    -- the S supply, up to a row above the rail limit and down to one within it
    module _ (o : Of S0 S1 m) (l : ℕ) (e : ldo_of m ≡ l) (ls : fits_register 14 l ≡ true) where
      up : (r : Run) → Progress h s t f f (λ (x : Regs). Other F x × (rail h x < limit_hz m)) r →
          Progress h s t f (limit_hz m) (λ (x : Regs). Other F x) ((store 13 (buck m) ▸ store 14 l ▸ store 12 0 ▸ delay 250 ▸ store 17 (row_of m).ulpmcr) r)
      up r c =
          let r1 = (store 13 (buck m) ▸ store 14 l) r in
          let c1 = volts_s (buck m) l f f (omega arith) (omega arith) {top = f} {R = λ (x : Regs). rail h x < limit_hz m} (buck_fits m).0 ls (λ x a q.
          let u = up_s (x 12) (x 13) (x 14) (x 15) (x 16) o q in (omega (arith, u.0), rw (← e) (omega (arith, u.1)))) r c in
          let r2 = store 12 0 r1 in
          let c2 = supply 0 (limit_hz m) supply_fits.0 p (λ x q. rw (q.0, q.1, ← e) (at_s 0 0 0 (x 15) (x 16) o)) r1 c1 in
          timed (row_of m).ulpmcr (timing_fits m) (λ x q. q) (delay 250 r2) (progress_delay h 250 r2 c2)

      down : {top : ℕ} → limit_hz m ≤ top → 48000000 < limit_hz m → (r : Run) → Progress h s t f top (λ (x : Regs). Other F x) r →
          Progress h s t f (limit_hz m) (λ (x : Regs). Other F x) ((store 13 (buck m) ▸ store 14 l ▸ store 17 (row_of m).ulpmcr ▸ store 12 0) r)
      down {top} w n r c =
          let r1 = (store 13 (buck m) ▸ store 14 l) r in
          let c1 = volts_s (buck m) l (limit_hz m) (limit_hz m) p p {top = top} {R = λ (x : Regs). Unit {0}} (buck_fits m).0 ls (λ x a q.
          let u = down_s (x 12) (x 13) (x 14) (x 15) (x 16) o (omega arith) n in (u.0, rw (← e) u.1)) r (progress_now h r (λ a q. (a, (q, tt))) c) in
          supply 0 (limit_hz m) supply_fits.0 p (λ x q. rw (q.0, q.1, ← e) (at_s 0 0 0 (x 15) (x 16) o))
          (store 17 (row_of m).ulpmcr r1) (timed (row_of m).ulpmcr (timing_fits m) (λ x q. q) r1 c1)

    -- the D supply, down to either row
    down_to_d : Of D0 D1 m → (l : ℕ) → ldo_of m ≡ l → fits_register 16 l ≡ true → limit_hz m ≤ 48000000 → 0 < limit_hz m → {top : ℕ} → 48000000 ≤ top → (r : Run) →
        Progress h s t f top (λ (x : Regs). Other F x) r → Progress h s t f (limit_hz m) (λ (x : Regs). Other F x) ((store 15 (buck m) ▸ store 16 l ▸ store 17 (row_of m).ulpmcr ▸ store 12 1) r)
    down_to_d o l e ls n z {top} w r c =
        let r1 = (store 15 (buck m) ▸ store 16 l) r in
        let c1 = volts_d (buck m) l (limit_hz m) (limit_hz m) p p {top = top} {R = λ (x : Regs). Unit {0}} (buck_fits m).1 ls (λ x a q.
        let u = down_d (x 12) (x 13) (x 14) (x 15) (x 16) o n z (omega arith) in (u.0, rw (← e) u.1)) r (progress_now h r (λ a q. (a, (q, tt))) c) in
        supply 1 (limit_hz m) supply_fits.1 p (λ x q. rw (q.0, q.1, ← e) (at_d 0 (x 13) (x 14) 0 0 o))
        (store 17 (row_of m).ulpmcr r1) (timed (row_of m).ulpmcr (timing_fits m) (λ x q. q) r1 c1)

  -- and up to its high row
  up_to_d1 : 0 < f → f ≤ limit_hz D1 → (r : Run) → Progress h s t f f (λ (x : Regs). Other F x × (rail h x < limit_hz D1)) r →
      Progress h s t f (limit_hz D1) (λ (x : Regs). Other F x) ((s2d_first D1 ▸ delay 250) r)
  unfolding s2d_first vref_of
  up_to_d1 pos p r c =
      let c1 = volts_d (buck D1) (ldo_of D1) f (limit_hz D1) (omega arith) p (buck_fits D1).1 (vref_fits D1) (λ x a q.
      let u = up_d (x 12) (x 13) (x 14) (x 15) (x 16) (omega arith) q in (omega (arith, u.0), u.1)) r c in
      progress_now h (delay 250 (s2d_first D1 r)) (λ a q. (a, q.0)) (progress_delay h 250 (s2d_first D1 r) c1)

  -- (1)
  raising_safe : (m : HpsysDvfsMode) → 0 < f → f ≤ limit_hz m → 48000000 ≤ limit_hz m → (r : Run) →
      Progress h s t f f (λ (x : Regs). Other F x × (rail h x < limit_hz m)) r → Progress h s t f (limit_hz m) (λ (x : Regs). Other F x) (raising m r)
  unfolding d2s_first sx_mode_volt timing
  raising_safe D0 pos p wide r c = absurd (omega arith)
  raising_safe D1 pos p wide r c = up_to_d1 pos p r c
  raising_safe S0 pos p wide r c = up p first (ldo_of S0) refl (ldo_fits S0) r c
  raising_safe S1 pos p wide r c = up p second (ldo_of S1) refl (ldo_fits S1) r c

  pub raise_safe : (m : HpsysDvfsMode) → 0 < f → f ≤ limit_hz m → 48000000 ≤ limit_hz m → (r : Run) →
      Progress h s t f f (λ (x : Regs). Other F x) r → Progress h s t f (limit_hz m) (λ (x : Regs). Other F x) (raise m r)
  unfolding raise rail_limit
  raise_safe m pos p wide r c =
      progress_if h (ltb (rail_limit r.head) (limit_hz m)) (raising m) idle r
      (λ e. raising_safe m pos p wide r (progress_now h r (λ a q. (a, (q, ltb-true (rail_limit r.head) (limit_hz m) e))) c))
      (λ e. progress_now h r (λ a q. (record { reads = a.reads; below = p; rails = ltb-false (rail_limit r.head) (limit_hz m) e; flash = a.flash; low = a.low }, q)) c)

  -- (8), from rails that carry the target's mode and 48 MHz
  pub target_rails_safe : (m : HpsysDvfsMode) {top : ℕ} → f ≤ limit_hz m → limit_hz m ≤ top → 48000000 ≤ top → (r : Run) →
      Progress h s t f top (λ (x : Regs). Other F x) r → Progress h s t f (limit_hz m) (λ (x : Regs). Other F x) (target_rails m r)
  unfolding s2d_first s2d_second sx_mode_volt timing
  target_rails_safe D0 p l wide r c = down_to_d p first (vref_of D0) refl (vref_fits D0) (omega arith) (omega arith) wide r c
  target_rails_safe D1 p l wide r c = down_to_d p second (vref_of D1) refl (vref_fits D1) (omega arith) (omega arith) wide r c
  target_rails_safe S0 p l wide r c = down p first (ldo_of S0) refl (ldo_fits S0) l (omega arith) r c
  target_rails_safe S1 p l wide r c = down p second (ldo_of S1) refl (ldo_fits S1) l (omega arith) r c
