-- Where a guarded change has come: every moment so far is fit, and what holds of the registers now.
use Prim.Native.Nat.{ℕ, ◌<◌}
use mathlib.Core.Path.{◌≡◌, refl, ap, sym, ◌∙◌, subst}
use mathlib.Core.Bool.{Bool, true, false, false≢true, cond, ◌&&◌, ◌||◌}
use mathlib.Core.List.{List}
use native.Mathlib.Omega.{arith}
use lib.Dec.{eqb, leb}
use lib.ListN.{length, drop, set, length-set}
use lib.Seq.{get_or-set_other}
use borrow.Author.Tests.{eqb-true, eqb-false}
use Rattle.std.specs.Prelude.{Option}
use Rattle.time.specs.declared.Hertz.{Hertz}
use Rattle.register.specs.Codes.{fits_register}
use Rattle.register.proofs.Fits.{fits_word}
use Rattle.head.specs.declared.Head.{Head}
use Rattle.head.specs.Head.{stored}
use Rattle.head.specs.Encodable.{Encodable}
use Rattle.head.proofs.Stores.{store_encodable}
use Rattle.clock_read.specs.Hpsys.{hertz, sys_of, hclk_of}
use Rattle.journal.specs.Run.{Run, Effect, unless_ended, with_head, store, delayed, delay, Poll, ready_after, never_ready, poll, entry, with_entry, waited, wait}
use Rattle.journal.proofs.Reached.{unless_ended_on, unless_ended_ended}
use Rattle.journal.proofs.Moments.{Moments, moments_store, moments_delay, moments_wait}
use Rattle.claim.specs.Moment.{head_with, SafeAt, taken_of}
use Rattle.claim.proofs.changes.View.{Regs, view, put, view_set, Fit, fit_safe}

-- the registers that a guarded change stores: 1 to 3, 5 and 11 to 17
abbrev pub stored_by_change : ℕ → Bool
stored_by_change k = leb 1 k && leb k 3 || (eqb k 5 || leb 11 k && leb k 17)

module _ (h : Head) where
  -- a run of a call on the head `h`: every moment is fit, only registers are changed, of them those that a change stores, and the head has
  -- a record
  pub record KeptSafe (r : Run) : Type 0 where
    pub moments : Moments (SafeAt h) h.regs r
    pub rest : r.head ≡ head_with h r.head.regs
    pub others : (k : ℕ) → stored_by_change k ≡ false → view r.head.regs k ≡ view h.regs k
    pub encodable : Encodable r.head

  -- a run on to the same head
  on_same_head : (r r' : Run) → KeptSafe r → r'.head ≡ r.head → Moments (SafeAt h) h.regs r' → KeptSafe r'
  on_same_head r r' k e m = record {
    moments = m;
    rest = subst (λ (g : Head). g ≡ head_with h g.regs) (sym e) k.rest;
    others = λ i q. ap (λ (g : Head). view g.regs i) e ∙ k.others i q;
    encodable = subst Encodable (sym e) k.encodable;
  }

  -- such a run, ended by `stop` where that is not 0, with `taken` answers taken; where it goes on, HCLK is `f`, the rails carry `top`, and
  -- `Q` holds of the registers
  pub record Progress (stop taken f top : ℕ) (Q : Regs → Type 0) (r : Run) : Type 0 where
    pub kept : KeptSafe r
    pub stops : r.stop ≡ stop
    pub takes : r.taken ≡ taken
    pub here : stop ≡ 0 → Fit h f top (view r.head.regs) × Q (view r.head.regs)

  module _ {s t f top f' top' : ℕ} {Q Q' : Regs → Type 0} where
    -- the same run, with something else said of its registers
    pub progress_now : (r : Run) → (Fit h f top (view r.head.regs) → Q (view r.head.regs) → Fit h f' top' (view r.head.regs) × Q' (view r.head.regs)) →
        Progress s t f top Q r → Progress s t f' top' Q' r
    progress_now r g c = record { kept = c.kept; stops = c.stops; takes = c.takes; here = λ z. g (c.here z).0 (c.here z).1 }

    -- what a call that has not ended does
    progress_unless_ended : (F : Effect) (r : Run) → Progress s t f top Q r → (s ≡ 0 → r.stop ≡ 0 → Progress s t f' top' Q' (F r)) → Progress s t f' top' Q' (unless_ended F r)
    progress_unless_ended F r c g = by (eqb s 0) refl
      where
        by : (b : Bool) → eqb s 0 ≡ b → Progress s t f' top' Q' (unless_ended F r)
        by true e =
            let z = eqb-true s 0 e in
            subst (Progress s t f' top' Q') (sym (unless_ended_on F r (c.stops ∙ z))) (g z (c.stops ∙ z))
        by false e =
            let z = eqb-false s 0 e in
            subst (Progress s t f' top' Q') (sym (unless_ended_ended F r (λ q. z (sym c.stops ∙ q))))
            (record { kept = c.kept; stops = c.stops; takes = c.takes; here = λ q. absurd (z q) })

    -- a store of a value worked out from the registers
    pub progress_store : (n : ℕ) (v : Regs → ℕ) → n < 35 → stored_by_change n ≡ true → ((g : Head) → Encodable g → fits_register n (v (view g.regs)) ≡ true) →
        ((x : Regs) → Fit h f top x → Q x → Fit h f' top' (put x n (v x)) × Q' (put x n (v x))) →
        (r : Run) → Progress s t f top Q r → Progress s t f' top' Q' (store n (v (view r.head.regs)) r)
    unfolding store
    progress_store n v p own fits g r c = progress_unless_ended storing r c (λ z e. went z e)
      where
        l : List ℕ
        l = r.head.regs

        w : ℕ
        w = v (view l)

        storing : Effect
        storing r = with_entry (entry n w) (with_head (stored r.head n w) r)

        k : KeptSafe r
        k = c.kept

        words : length l ≡ 35
        words = k.encodable.words

        fit : fits_register n w ≡ true
        fit = fits r.head k.encodable

        now : s ≡ 0 → Fit h f' top' (view (set l n w)) × Q' (view (set l n w))
        now z = subst (λ (x : Regs). Fit h f' top' x × Q' x) (sym (view_set l n w (omega (arith, words)))) (g (view l) (c.here z).0 (c.here z).1)

        apart : (i : ℕ) → stored_by_change i ≡ false → i ≡ n → ⊥
        apart i q e = false≢true (sym q ∙ (ap stored_by_change e ∙ own))

        went : s ≡ 0 → r.stop ≡ 0 → Progress s t f' top' Q' (storing r)
        went z e =
            let safe = fit_safe h (set l n w) (length-set l n w ∙ words) (now z).0 in
            let m = moments_store (SafeAt h) h.regs n w p (fits_word n w fit) r k.moments safe in
            record {
              kept = record {
                moments = subst (Moments (SafeAt h) h.regs) (unless_ended_on storing r e) m;
                rest = ap (λ (g : Head). head_with g (set l n w)) k.rest;
                others = λ i q. get_or-set_other l n i w 0 (apart i q) ∙ k.others i q;
                encodable = store_encodable r.head n w k.encodable fit;
              };
              stops = c.stops;
              takes = c.takes;
              here = now;
            }

  module _ {s t f top : ℕ} {Q : Regs → Type 0} where
    -- a delay, which reads HCLK
    pub progress_delay : (us : ℕ) (r : Run) → Progress s t f top Q r → Progress s t f top Q (delay us r)
    unfolding delay hclk_of sys_of
    progress_delay us r c = progress_unless_ended delaying r c (λ z e. went z e)
      where
        delaying : Effect
        delaying r = delayed (hclk_of r.head) us r

        went : s ≡ 0 → r.stop ≡ 0 → Progress s t f top Q (delaying r)
        went z e =
            let reads : hclk_of r.head ≡ hertz f = ap hclk_of c.kept.rest ∙ (c.here z).0.reads in
            let m = subst (Moments (SafeAt h) h.regs) (unless_ended_on delaying r e) (moments_delay (SafeAt h) h.regs us r c.kept.moments) in
            subst (λ (a : Option Hertz). Progress s t f top Q (delayed a us r)) (sym reads) (record {
              kept = on_same_head r _ c.kept refl (subst (λ (a : Option Hertz). Moments (SafeAt h) h.regs (delayed a us r)) reads m);
              stops = c.stops;
              takes = c.takes;
              here = c.here;
            })

    -- either of two effects, by a test
    pub progress_if : (b : Bool) (F G : Effect) (r : Run) → (b ≡ true → Progress s t f top Q (F r)) → (b ≡ false → Progress s t f top Q (G r)) → Progress s t f top Q (cond b F G r)
    progress_if true F G r p q = p refl
    progress_if false F G r p q = q refl

-- what a wait ends with
abbrev pub stop_of : Poll → ℕ
stop_of (ready_after n) = 0
stop_of never_ready = 36

-- the wait for DLL1
module _ (h : Head) {f top : ℕ} {Q : Regs → Type 0} where
  pub progress_wait : (kind : ℕ) (a : List ℕ) (r : Run) → Progress h 0 0 f top Q r → Progress h (stop_of (poll a)) (taken_of a (poll a)) f top Q (wait kind a r)
  unfolding wait
  progress_wait kind a r c =
      let m = subst (Moments (SafeAt h) h.regs) whole (moments_wait (SafeAt h) h.regs kind a r c.kept.moments) in
      subst (Progress h (stop_of (poll a)) (taken_of a (poll a)) f top Q) (sym whole) (found (poll a) m)
    where
      whole : wait kind a r ≡ waited kind a (poll a) r
      whole = unless_ended_on (λ (r : Run). waited kind a (poll (drop r.taken a)) r) r c.stops ∙ ap (λ (n : ℕ). waited kind a (poll (drop n a)) r) c.takes

      found : (q : Poll) → Moments (SafeAt h) h.regs (waited kind a q r) → Progress h (stop_of q) (taken_of a q) f top Q (waited kind a q r)
      found (ready_after n) m = record { kept = on_same_head h r _ c.kept refl m; stops = c.stops; takes = omega (arith, c.takes); here = c.here }
      found never_ready m = record { kept = on_same_head h r _ c.kept refl m; stops = refl; takes = refl; here = λ z. absurd (omega arith) }
