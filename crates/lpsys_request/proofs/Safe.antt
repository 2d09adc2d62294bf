-- From a head on which LPSYS keeps its limit and its source reads, every moment of an LPSYS request keeps it.
use Prim.Native.Nat.{ℕ, ◌/◌, ◌≤◌, ◌<◌}
use mathlib.Core.Path.{◌≡◌, refl, ap, sym, ◌∙◌}
use mathlib.Core.Bool.{Bool, true, false, cond}
use mathlib.Core.List.{List}
use native.Mathlib.Omega.{arith}
use native.Mathlib.Nat.{div-le_of_le-mul}
use native.Mathlib.Decide.{dec_le}
use Rattle.dvfs_lpsys.specs.switch.{lpsys_d2s_first, lpsys_s2d_first, lpsys_s2d_second}
use lib.Dec.{eqb}
use lib.ListN.{length, get_or, set, length-set}
use lib.Seq.{get_or-set_same, get_or-set_other}
use borrow.Author.Tests.{eqb-true, le-leb}
use Rattle.clock.specs.Clock.{divided}
use Rattle.head.specs.declared.Head.{Head}
use Rattle.register.specs.Word.{word_of, byte_a, byte_b, byte_c}
use Rattle.head.specs.Encodable.{Encodable}
use Rattle.clock_read.specs.Hpsys.{reg, hertz}
use Rattle.clock_read.specs.lpsys.{lpsys_sys_of, lpsys_hclk_of}
use Rattle.journal.specs.Run.{Run, begin, unless_ended, store, delay}
use Rattle.journal.proofs.Delays.{delay_head}
use Rattle.journal.proofs.Moments.{Moments, moments_begin, moments_now, moments_store, moments_delay}
use Rattle.dvfs.specs.declared.lpsys.LpsysDvfsMode.{LpsysDvfsMode}
use Rattle.dvfs.specs.declared.lpsys.LpsysDvfsMode.TheVariants.{D, S}
use Rattle.dvfs.specs.lpsys.{lpsys_mode_of}
use Rattle.lpsys_request.specs.modes.{divider_for, present_mode}
use Rattle.lpsys_request.proofs.modes.Divider.{divider_slow, divider_small}
use Rattle.lpsys_request.proofs.modes.Laws.{request_d, request_s}
use Rattle.lpsys_request.specs.hdiv.{set_hdiv}
use Rattle.lpsys_request.specs.Request.{request}
use Rattle.lpsys_request.specs.Safe.{lpsys_hz, LpsysSafe}

-- what is kept: the limit, and the number of registers
pub record KeptLpsys (regs : List ℕ) : Type 0 where
  pub words : length regs ≡ 35
  pub safe : LpsysSafe regs

-- a divider of 2 or more gives at most 24 MHz
slow : (d : ℕ) → 2 ≤ d → divided 48000000 d ≤ 24000000
unfolding divided
slow d h = by (eqb d 0) refl
  where
    by : (t : Bool) → eqb d 0 ≡ t → cond t 48000000 (48000000 / d) ≤ 24000000
    by true e = let z = eqb-true d 0 e in absurd (omega arith)
    by false e = div-le_of_le-mul d (omega arith)

-- a store of another register keeps the limit
other : (regs : List ℕ) (n v : ℕ) → (26 ≡ n → ⊥) → (28 ≡ n → ⊥) → KeptLpsys regs → KeptLpsys (set regs n v)
unfolding lpsys_hz
other regs n v p q k = record {
  words = length-set regs n v ∙ k.words;
  safe = record { limit = λ z. rw (get_or-set_other regs n 26 v 0 p) (k.safe.limit (sym (get_or-set_other regs n 28 v 0 q) ∙ z)) };
}

-- supply S has no limit here
to_s : (regs : List ℕ) → KeptLpsys regs → KeptLpsys (set regs 28 1)
to_s regs k = record {
  words = length-set regs 28 1 ∙ k.words;
  safe = record { limit = λ z. absurd (omega (arith, sym (get_or-set_same regs 28 1 0 (omega (arith, k.words))) ∙ z)) };
}

-- supply D after the divider
to_d : (regs : List ℕ) → length regs ≡ 35 → 2 ≤ byte_a (get_or regs 26 0) → KeptLpsys (set regs 28 0)
unfolding lpsys_hz
to_d regs l h = record {
  words = length-set regs 28 0 ∙ l;
  safe = record { limit = λ z. rw (get_or-set_other regs 28 26 0 0 (λ e. omega arith)) (slow (byte_a (get_or regs 26 0)) h) };
}

-- a divider of 2 or more, on either supply
slower : (regs : List ℕ) (w : ℕ) → length regs ≡ 35 → 2 ≤ byte_a w → KeptLpsys (set regs 26 w)
unfolding lpsys_hz
slower regs w l h = record {
  words = length-set regs 26 w ∙ l;
  safe = record { limit = λ z. rw (get_or-set_same regs 26 w 0 (omega (arith, l))) (slow (byte_a w) h) };
}

-- any divider on supply S
faster : (regs : List ℕ) (w : ℕ) → length regs ≡ 35 → (get_or regs 28 0 ≡ 0 → ⊥) → KeptLpsys (set regs 26 w)
faster regs w l s = record {
  words = length-set regs 26 w ∙ l;
  safe = record { limit = λ z. absurd (s (sym (get_or-set_other regs 26 28 w 0 (λ e. omega arith)) ∙ z)) };
}

-- LPSYS above 24 MHz is on supply S
present_d : (h : Head) → lpsys_sys_of h ≡ hertz 48000000 → lpsys_hz h.regs ≤ 24000000 → present_mode h ≡ D
unfolding present_mode lpsys_hclk_of lpsys_mode_of lpsys_hz
present_d h source slow = rw (source, le-leb (divided 48000000 (byte_a (reg h 26)) / 1000000) 24 (omega (arith, slow)))

present_s : (h : Head) → lpsys_sys_of h ≡ hertz 48000000 → LpsysSafe h.regs → present_mode h ≡ S → get_or h.regs 28 0 ≡ 0 → ⊥
present_s h source safe e z =
    let d = present_d h source (safe.limit z) in
    let no : ◌≡◌ {A = ℕ} 0 1 = cc in
    omega arith

-- the divider's word
module _ (f : ℕ) (h : Head) (ok : Encodable h) (p : 1 ≤ f) where
  abbrev word : Head → ℕ
  word g = word_of (divider_for f h) (byte_b (reg g 26)) (byte_c (reg g 26))

  word_a : (g : Head) → byte_a (word g) ≡ divider_for f h
  word_a g = omega (arith, divider_small f h p)

  word_small : (g : Head) → word g < 16777216
  word_small g = omega (arith, divider_small f h p)

  -- the request, by the two modes
  module _ (source : lpsys_sys_of h ≡ hertz 48000000) (safe : LpsysSafe h.regs) where
    abbrev l : List ℕ
    l = h.regs

    start : Moments KeptLpsys l (begin h)
    start = moments_begin KeptLpsys h (record { words = ok.words; safe = safe })

    abbrev r30 : Run
    r30 = store 30 6 (begin h)

    abbrev r26 : Run
    r26 = store 26 (word r30.head) r30

    abbrev r31 : Run
    r31 = store 31 0x162 r26

    abbrev r29 : Run
    r29 = store 29 8 (begin h)

    abbrev r28 : Run
    r28 = store 28 1 r29

    -- the divider falls to 2 or more
    falls : (r : Run) → f ≤ 24 → Moments KeptLpsys l r → Moments KeptLpsys l (store 26 (word r.head) r)
    falls r q m =
        moments_store KeptLpsys l 26 (word r.head) (omega arith) (word_small r.head) r m
        (slower r.head.regs (word r.head) (moments_now KeptLpsys l r m).words (rw (word_a r.head) (divider_slow f h p q)))

    s_to_d : f ≤ 24 → Moments KeptLpsys l (store 28 0 r31)
    unfolding store unless_ended
    s_to_d q =
        let m30 = moments_store KeptLpsys l 30 6 (omega arith) (omega arith) (begin h) start (other l 30 6 (λ e. omega arith) (λ e. omega arith) (moments_now KeptLpsys l (begin h) start)) in
        let m26 = falls r30 q m30 in
        let m31 = moments_store KeptLpsys l 31 0x162 (omega arith) (omega arith) r26 m26 (other r26.head.regs 31 0x162 (λ e. omega arith) (λ e. omega arith) (moments_now KeptLpsys l r26 m26)) in
        let words = (moments_now KeptLpsys l r30 m30).words in
        let untouched = get_or-set_other r26.head.regs 31 26 0x162 0 (λ e. omega arith) in
        let stored = get_or-set_same r30.head.regs 26 (word r30.head) 0 (omega (arith, words)) in
        let divider : get_or r31.head.regs 26 0 ≡ word r30.head = untouched ∙ stored in
        moments_store KeptLpsys l 28 0 (omega arith) (omega arith) r31 m31
        (to_d r31.head.regs (moments_now KeptLpsys l r31 m31).words (rw (divider, word_a r30.head) (divider_slow f h p q)))

    d_to_s : Moments KeptLpsys l (store 26 (word (delay 250 r28).head) (delay 250 r28))
    unfolding store unless_ended
    d_to_s =
        let m29 = moments_store KeptLpsys l 29 8 (omega arith) (omega arith) (begin h) start (other l 29 8 (λ e. omega arith) (λ e. omega arith) (moments_now KeptLpsys l (begin h) start)) in
        let k29 = moments_now KeptLpsys l r29 m29 in
        let m28 = moments_store KeptLpsys l 28 1 (omega arith) (omega arith) r29 m29 (to_s r29.head.regs k29) in
        let r = delay 250 r28 in
        let m = moments_delay KeptLpsys l 250 r28 m28 in
        let supply : get_or r.head.regs 28 0 ≡ 1 = ap (λ (g : Head). get_or g.regs 28 0) (delay_head 250 r28) ∙ get_or-set_same r29.head.regs 28 1 0 (omega (arith, k29.words)) in
        moments_store KeptLpsys l 26 (word r.head) (omega arith) (word_small r.head) r m
        (faster r.head.regs (word r.head) (moments_now KeptLpsys l r m).words (λ z. omega (arith, supply, z)))

    s_to_s : present_mode h ≡ S → Moments KeptLpsys l (store 26 (word h) (begin h))
    s_to_s e = moments_store KeptLpsys l 26 (word h) (omega arith) (word_small h) (begin h) start (faster l (word h) ok.words (present_s h source safe e))

    -- every moment of an LPSYS request, one that ends with 34 included, keeps the limit
    pub request_safe : f ≤ 48 → Moments KeptLpsys l (request f (begin h))
    unfolding request set_hdiv lpsys_d2s_first lpsys_s2d_first lpsys_s2d_second
    request_safe q = by (present_mode h) refl (dec_le f 24)
      where
        by : (m : LpsysDvfsMode) → present_mode h ≡ m → Dec (f ≤ 24) → Moments KeptLpsys l (request f (begin h))
        by D e (yes n) = rw (e, request_d f n) (falls (begin h) n start)
        by D e (no n) = rw (e, request_s f (omega arith) q) d_to_s
        by S e (yes n) = rw (e, request_d f n) (s_to_d n)
        by S e (no n) = rw (e, request_s f (omega arith) q) (s_to_s e)

    -- a request of at most 24 MHz leaves no more
    pub request_slow : f ≤ 24 → lpsys_hz (request f (begin h)).head.regs ≤ 24000000
    unfolding request set_hdiv lpsys_s2d_first lpsys_s2d_second lpsys_hz store unless_ended
    request_slow n = by (present_mode h) refl
      where
        by : (m : LpsysDvfsMode) → present_mode h ≡ m → lpsys_hz (request f (begin h)).head.regs ≤ 24000000
        by D e = rw (e, request_d f n, get_or-set_same l 26 (word h) 0 (omega (arith, ok.words)), word_a h) (slow (divider_for f h) (divider_slow f h p n))
        by S e =
            let left = moments_now KeptLpsys l (store 28 0 r31) (s_to_d n) in
            rw (e, request_d f n) (left.safe.limit (get_or-set_same r31.head.regs 28 0 0 (omega (arith, sym (length-set r31.head.regs 28 0) ∙ left.words))))
