-- From a fit head every moment of a call that wakes and slows is fit.
use Prim.Native.Nat.{ℕ, ◌≤◌}
use mathlib.Core.Path.{◌≡◌, refl, ap, sym, ◌∙◌, subst}
use mathlib.Core.Bool.{Bool, true, false, cond}
use mathlib.Core.List.{List}
use native.Mathlib.Omega.{arith}
use lib.ListN.{length}
use Rattle.head.specs.declared.Head.{Head}
use Rattle.head.specs.Head.{with_wake_count}
use Rattle.head.specs.Encodable.{Encodable}
use Rattle.journal.specs.Run.{Run, ◌▸◌, begin}
use Rattle.journal.proofs.Mute.{Mute, placed, mute_then, from_begin}
use Rattle.journal.proofs.Moments.{Moments, moments_map, moments_joined}
use Rattle.fit.specs.Fit.{fits}
use Rattle.lpsys_request.specs.Safe.{lpsys_hz}
use Rattle.lpsys_request.specs.slow.{refuse_unread, slow_down}
use Rattle.lpsys_request.proofs.Mute.{mute_refuse_unread, mute_slow_down}
use Rattle.lpsys_wake.specs.Wake.{wake}
use Rattle.clock_lpsys.specs.Calls.{wake_and_slow}
use Rattle.claim.specs.Moment.{head_with, SafeAt, two_ready, stop_for_wake}
use Rattle.claim.proofs.Heads.{count_fit}
use Rattle.claim.proofs.wakes.Wake.{count_after, requested, WakeDid, requested_safe, woken_encodable, wakes}
use Rattle.claim.proofs.wakes.Slow.{SlowDid, slows}

-- what a call that wakes and slows leaves of the head `h`
pub record WakeAndSlowDid (h : Head) (a : List ℕ) (r : Run) : Type 0 where
  pub moments : Moments (SafeAt h) h.regs r
  -- registers are changed, and the wake count
  pub only : r.head ≡ with_wake_count (count_after r.stop h) (head_with h r.head.regs)
  pub encodable : Encodable r.head
  pub stop : r.stop ≡ stop_for_wake a
  pub taken : r.taken ≤ length a
  pub slow : r.stop ≡ 0 → lpsys_hz r.head.regs ≤ 24000000

mute : Mute (refuse_unread ▸ slow_down)
mute = mute_then mute_refuse_unread mute_slow_down

module _ (h : Head) (ok : Encodable h) (fit : fits h ≡ true) (a : List ℕ) where
  abbrev r : Run
  r = wake a (begin h)

  did : WakeDid h a r
  did = wakes h ok fit a

  ok_woken : Encodable r.head
  ok_woken = subst Encodable (sym did.head) (woken_encodable h ok fit r.stop)

  -- refused, nothing of the second half is stored
  refused : (r.stop ≡ 0 → ⊥) → WakeAndSlowDid h a (slow_down (refuse_unread r))
  refused z = rw (mute.ends r z) (record {
    moments = did.moments;
    only = did.head ∙ ap (λ (g : Head). with_wake_count (count_after r.stop h) (head_with h g.regs)) (sym did.head);
    encodable = ok_woken;
    stop = did.stop;
    taken = did.taken;
    slow = λ e. absurd (z e);
  })

  -- woken, the slowing goes on from the head that the wake left, which is fit as well
  module _ (z : r.stop ≡ 0) where
    abbrev q : Run
    q = slow_down (refuse_unread (begin r.head))

    fit_woken : fits r.head ≡ true
    fit_woken = ap fits did.head ∙ (count_fit (count_after r.stop h) (requested h) ∙ (requested_safe h ok fit).fit)

    slowed : SlowDid r.head q
    slowed = slows r.head ok_woken fit_woken

    -- the two heads differ in registers and wake count
    with_regs : (regs : List ℕ) → head_with r.head regs ≡ with_wake_count (count_after r.stop h) (head_with h regs)
    with_regs regs = ap (λ (g : Head). head_with g regs) did.head

    as_before : (regs : List ℕ) → SafeAt r.head regs → SafeAt h regs
    as_before regs s = record { words = s.words; fit = sym (count_fit (count_after r.stop h) (head_with h regs)) ∙ (ap fits (sym (with_regs regs)) ∙ s.fit) }

    joined : Moments (SafeAt h) h.regs (placed r.entries r.taken q)
    joined =
        moments_joined (SafeAt h) h.regs r q r.taken did.moments
        (moments_map (SafeAt r.head) (SafeAt h) r.head.regs q as_before slowed.moments)

    woken : WakeAndSlowDid h a (slow_down (refuse_unread r))
    woken = rw (from_begin mute r z) (record {
      moments = joined;
      only = slowed.only ∙ (with_regs q.head.regs ∙ ap (λ (n : ℕ). with_wake_count (count_after n h) (head_with h q.head.regs)) (z ∙ sym slowed.goes));
      encodable = slowed.encodable;
      stop = slowed.goes ∙ (sym z ∙ did.stop);
      taken = did.taken;
      slow = λ e. slowed.slow;
    })

  pub wake_and_slow_did : WakeAndSlowDid h a (wake_and_slow a (begin h))
  unfolding wake_and_slow
  wake_and_slow_did = by (two_ready a) refl
    where
      by : (t : Bool) → two_ready a ≡ t → WakeAndSlowDid h a (slow_down (refuse_unread r))
      by true e = woken (did.stop ∙ ap (λ (t : Bool). cond t 0 36) e)
      by false e = refused (λ z. let ended = did.stop ∙ ap (λ (t : Bool). cond t 0 36) e in omega (arith, z, ended))
