-- A wake from a fit head: every moment is fit, it ends done or with 36, and stores register 33 alone.
use Prim.Native.Nat.{ℕ, ◌+◌, ◌%◌, ◌≤◌, ◌<◌}
use mathlib.Core.Path.{◌≡◌, refl, ap, sym, ◌∙◌, subst}
use mathlib.Core.Bool.{Bool, true, false, cond}
use mathlib.Core.List.{List}
use native.Mathlib.Omega.{arith}
use lib.Dec.{eqb}
use lib.ListN.{length, drop, set, length-set}
use Rattle.record.specs.Bytes.{is_within}
use Rattle.register.specs.Word.{word_bytes}
use Rattle.register.specs.Codes.{largest, fits_register}
use Rattle.head.specs.declared.Head.{Head}
use Rattle.head.specs.Head.{with_wake_count}
use Rattle.head.specs.Encodable.{Encodable}
use Rattle.head.proofs.Fields.{with_wake_count_encodable}
use Rattle.head.proofs.Stores.{store_encodable}
use Rattle.clock_read.specs.Hpsys.{hertz, sys_of, hclk_of}
use Rattle.journal.specs.Run.{Run, begin, unless_ended, store, delay, Poll, ready_after, never_ready, poll, waited, wait}
use Rattle.journal.proofs.Reached.{unless_ended_on}
use Rattle.journal.proofs.Delays.{delay_head}
use Rattle.journal.proofs.Ended.{still_then, still_delay, still_unless_ended}
use Rattle.journal.proofs.Moments.{Moments, moments_begin, moments_store, moments_delay, moments_wait, moments_same}
use Rattle.fit.specs.Fit.{fits}
use Rattle.lpsys_wake.specs.count.{count_up}
use Rattle.lpsys_wake.specs.Wake.{wake_first, wake}
use Rattle.claim.specs.Moment.{head_with, SafeAt, stop_for_wake}
use Rattle.claim.proofs.changes.View.{view, view_set, Fit, fit_safe, begun}
use Rattle.claim.proofs.changes.Progress.{stop_of}
use Rattle.claim.proofs.wakes.Waits.{stops_first, stops_second, taken_second}

-- the wake count that a wake leaves, by how it ended
abbrev pub count_after : ℕ → Head → ℕ
count_after stop h = cond (eqb stop 0) ((h.wake_count + 1) % 256) h.wake_count

-- the head with HP2LP requested
abbrev pub requested : Head → Head
requested h = head_with h (set h.regs 33 1)

-- what a wake with the answers `a` leaves of the head `h`
pub record WakeDid (h : Head) (a : List ℕ) (r : Run) : Type 0 where
  pub moments : Moments (SafeAt h) h.regs r
  pub head : r.head ≡ with_wake_count (count_after r.stop h) (requested h)
  pub stop : r.stop ≡ stop_for_wake a
  pub taken : r.taken ≤ length a

module _ (h : Head) (ok : Encodable h) (fit : fits h ≡ true) where
  abbrev hz : ℕ
  hz = (begun h fit).hz

  -- register 33 has no part in what makes a head fit
  still_fit : Fit h hz hz (view (set h.regs 33 1))
  still_fit =
      let t = (begun h fit).fit in
      subst (Fit h hz hz) (sym (view_set h.regs 33 1 (omega (arith, ok.words))))
      (record { reads = t.reads; below = t.below; rails = t.rails; flash = t.flash; low = t.low })

  pub requested_safe : SafeAt h (set h.regs 33 1)
  requested_safe = fit_safe h (set h.regs 33 1) (length-set h.regs 33 1 ∙ ok.words) still_fit

  requested_reads : hclk_of (requested h) ≡ hertz hz
  unfolding hclk_of sys_of
  requested_reads = still_fit.reads

  pub woken_encodable : (n : ℕ) → Encodable (with_wake_count (count_after n h) (requested h))
  unfolding fits_register is_within word_bytes largest
  woken_encodable n = with_wake_count_encodable (store_encodable h 33 1 ok refl) (small (eqb n 0))
    where
      small : (t : Bool) → cond t ((h.wake_count + 1) % 256) h.wake_count < 256
      small true = omega arith
      small false = ok.wake

  -- a run of the wake on its way: ended by `s` where that is not 0, with `t` answers taken
  record Under (s t : ℕ) (r : Run) : Type 0 where
    moments : Moments (SafeAt h) h.regs r
    head : r.head ≡ requested h
    stop : r.stop ≡ s
    taken : r.taken ≡ t

  asked : Under 0 0 (store 33 1 (begin h))
  unfolding store unless_ended
  asked = record {
    moments = moments_store (SafeAt h) h.regs 33 1 (omega arith) (omega arith) (begin h) (moments_begin (SafeAt h) h (record { words = ok.words; fit = fit })) requested_safe;
    head = refl;
    stop = refl;
    taken = refl;
  }

  pauses : (us t : ℕ) (r : Run) → Under 0 t r → Under 0 t (delay us r)
  unfolding delay unless_ended
  pauses us t r u =
      let reads : hclk_of r.head ≡ hertz hz = ap hclk_of u.head ∙ requested_reads in
      record {
        moments = moments_delay (SafeAt h) h.regs us r u.moments;
        head = delay_head us r ∙ u.head;
        stop = rw (u.stop, reads);
        taken = rw (u.stop, reads) u.taken;
      }

  -- a wait, by what polling finds among the answers that are left
  abbrev taken_by : ℕ → List ℕ → Poll → ℕ
  taken_by t a (ready_after n) = t + n
  taken_by t a never_ready = length a

  waits : (a : List ℕ) (t : ℕ) (q : Poll) (r : Run) → poll (drop t a) ≡ q → Under 0 t r → Under (stop_of q) (taken_by t a q) (wait 6 a r)
  unfolding wait
  waits a t q r e u =
      let m = subst (Moments (SafeAt h) h.regs) whole (moments_wait (SafeAt h) h.regs 6 a r u.moments) in
      subst (Under (stop_of q) (taken_by t a q)) (sym whole) (found q m)
    where
      whole : wait 6 a r ≡ waited 6 a q r
      whole =
          unless_ended_on (λ (r : Run). waited 6 a (poll (drop r.taken a)) r) r u.stop
          ∙ (ap (λ (n : ℕ). waited 6 a (poll (drop n a)) r) u.taken ∙ ap (λ (p : Poll). waited 6 a p r) e)

      found : (q : Poll) → Moments (SafeAt h) h.regs (waited 6 a q r) → Under (stop_of q) (taken_by t a q) (waited 6 a q r)
      found (ready_after n) m = record { moments = m; head = u.head; stop = u.stop; taken = omega (arith, u.taken) }
      found never_ready m = record { moments = m; head = u.head; stop = refl; taken = refl }

  -- a run that has ended, and one that counts the wake
  over : (a : List ℕ) (t : ℕ) (r : Run) → Under 36 t r → stop_for_wake a ≡ 36 → t ≤ length a → WakeDid h a r
  over a t r u e l = record {
    moments = u.moments;
    head = u.head ∙ ap (λ (n : ℕ). with_wake_count (count_after n h) (requested h)) (sym u.stop);
    stop = u.stop ∙ sym e;
    taken = omega (arith, u.taken, l);
  }

  counts : (a : List ℕ) (t : ℕ) (r : Run) → Under 0 t r → stop_for_wake a ≡ 0 → t ≤ length a → WakeDid h a (count_up r)
  unfolding count_up unless_ended
  counts a t r u e l = rw u.stop (record {
    moments = moments_same (SafeAt h) h.regs r _ refl refl u.moments;
    head = rw u.head refl;
    stop = sym e;
    taken = omega (arith, u.taken, l);
  })

  uncounted : (r : Run) → r.stop ≡ 36 → count_up r ≡ r
  unfolding count_up
  uncounted r e = (still_unless_ended _).stays r (λ z. omega (arith, e, z))

  cut_short : (a : List ℕ) (r : Run) → r.stop ≡ 36 → count_up (wait 6 a (delay 30 r)) ≡ r
  unfolding wait count_up
  cut_short a r e = (still_then (still_then (still_delay 30) (still_unless_ended _)) (still_unless_ended _)).stays r (λ z. omega (arith, e, z))

  pub wakes : (a : List ℕ) → WakeDid h a (wake a (begin h))
  unfolding wake wake_first
  wakes a = first (poll a) refl
    where
      r2 : Run
      r2 = delay 230 (store 33 1 (begin h))

      u2 : Under 0 0 r2
      u2 = pauses 230 0 (store 33 1 (begin h)) asked

      second : (n : ℕ) (q : Poll) → poll a ≡ ready_after n → poll (drop n a) ≡ q → Under 0 n (wait 6 a r2) → WakeDid h a (count_up (wait 6 a (delay 30 (wait 6 a r2))))
      second n (ready_after m) e f u =
          counts a (n + m) (wait 6 a (delay 30 (wait 6 a r2))) (waits a n (ready_after m) (delay 30 (wait 6 a r2)) f (pauses 30 n (wait 6 a r2) u))
          (stops_second a n (ready_after m) e f) (taken_second a n m e f)
      second n never_ready e f u =
          let u5 = waits a n never_ready (delay 30 (wait 6 a r2)) f (pauses 30 n (wait 6 a r2) u) in
          subst (WakeDid h a) (sym (uncounted (wait 6 a (delay 30 (wait 6 a r2))) u5.stop)) (over a (length a) _ u5 (stops_second a n never_ready e f) (omega arith))

      first : (q : Poll) → poll a ≡ q → WakeDid h a (count_up (wait 6 a (delay 30 (wait 6 a r2))))
      first (ready_after n) e =
          let u3 = waits a 0 (ready_after n) r2 e u2 in
          second n (poll (drop n a)) e refl (record { moments = u3.moments; head = u3.head; stop = u3.stop; taken = omega (arith, u3.taken) })
      first never_ready e =
          let u3 = waits a 0 never_ready r2 e u2 in
          subst (WakeDid h a) (sym (cut_short a (wait 6 a r2) u3.stop)) (over a (length a) (wait 6 a r2) u3 (stops_first a e) (omega arith))
