-- The wait of a guarded change: what comes before it and behind it is the same whatever the hardware answers.
use Prim.Native.Nat.{ℕ, ◌+◌, ◌*◌}
use mathlib.Core.Path.{◌≡◌, refl, ap, sym, ◌∙◌}
use mathlib.Core.Bool.{Bool, true, false}
use mathlib.Core.List.{List, [], ◌∷◌, ◌++◌, append_assoc, append-nil}
use native.Mathlib.Omega.{arith}
use lib.Dec.{eqb, ltb}
use lib.ListN.{length, drop}
use borrow.Author.Tests.{eqb-true, eqb-false}
use Rattle.std.specs.Prelude.{Option, Some}
use Rattle.record.proofs.Refusals.{none_refused, not_refused}
use Rattle.clock.specs.declared.Dll.{Dll}
use Rattle.plan.specs.declared.Plan.{Plan}
use Rattle.plan.specs.bytes.{plan_of}
use Rattle.plan_clocks.specs.Clocks.{hclk_hz}
use Rattle.time.specs.Frequency.{hz_or}
use Rattle.head.specs.declared.Head.{Head}
use Rattle.head.specs.Head.{booked}
use Rattle.head.specs.Record.{head_of, written}
use Rattle.clock_read.specs.Hpsys.{reg, hclk_of}
use Rattle.journal.specs.Run.{Run, Effect, ◌▸◌, begin, entry, delay, Poll, ready_after, never_ready, poll, waited, wait}
use Rattle.journal.proofs.Reached.{unless_ended_on, unless_ended_ended}
use Rattle.journal.proofs.Mute.{Mute, mute_delay, mute_then, mute_takes, placed}
use Rattle.dvfs.specs.declared.hpsys.HpsysDvfsMode.{HpsysDvfsMode}
use Rattle.dll.specs.Dll.{set_dll, configure_dll}
use Rattle.core_clock.specs.dividers.{dividers}
use Rattle.guard_steps.specs.peak.{mode_at, peak_of}
use Rattle.guard_steps.specs.supply.{raise, target_rails}
use Rattle.guard_steps.specs.Steps.{leave_dll1, to_hxt48, to_planned, back_to}
use Rattle.guard_change.specs.Change.{change}
use Rattle.call.specs.Call.{Left, answers_tests, finished, performed}
use Rattle.guard.specs.Guard.{change_tests, change_refusal, change_call}
use Rattle.claim.specs.Moment.{one_ready, stop_for}
use Rattle.claim.specs.Claim.{changing, entries_of, FitHead}
use Rattle.claim.proofs.changes.Progress.{stop_of}
use Rattle.claim.proofs.changes.Core.{polled}
use Rattle.claim.proofs.Demand.{one}
use Rattle.play.specs.Play.{AroundWait}
use Rattle.play.proofs.Parts.{raises, leaves, to_hxt48_lem, sets, behind}
use Rattle.play.proofs.Calls.{entries_are}

-- an effect, a wait, and another effect
module _ (f g : Effect) (x : Mute f) (y : Mute g) (h : Head) (goes : (f (begin h)).stop ≡ 0) where
  abbrev r : Run
  r = f (begin h)

  -- the second effect, from where the first came to
  abbrev rest : Run
  rest = g (begin r.head)

  waits : (kind : ℕ) (a : List ℕ) → wait kind a r ≡ waited kind a (poll a) r
  unfolding wait
  waits kind a =
      unless_ended_on (λ (q : Run). waited kind a (poll (drop q.taken a)) q) r goes ∙ ap (λ (n : ℕ). waited kind a (poll (drop n a)) r) (mute_takes x (begin h))

  cut_short : (kind : ℕ) (a : List ℕ) → poll a ≡ never_ready → ((f ▸ wait kind a ▸ g) (begin h)).entries ≡ r.entries
  cut_short kind a e =
      let at : wait kind a r ≡ waited kind a never_ready r = waits kind a ∙ ap (λ (q : Poll). waited kind a q r) e in
      ap (λ (q : Run). q.entries) (ap g at ∙ y.ends (waited kind a never_ready r) (λ z. omega (arith, z)))

  abbrev waited_run : ℕ → ℕ → Run
  waited_run kind n = record { entries = r.entries ++ (entry 49 (kind * 65536 + n) ∷ []); head = r.head; taken = r.taken + n; stop = r.stop }

  found : (kind : ℕ) (a : List ℕ) (n : ℕ) → poll a ≡ ready_after n →
      (f ▸ wait kind a ▸ g) (begin h) ≡ placed (r.entries ++ (entry 49 (kind * 65536 + n) ∷ [])) (r.taken + n) rest
  found kind a n e =
      let at : wait kind a r ≡ waited_run kind n = waits kind a ∙ ap (λ (q : Poll). waited kind a q r) e in
      let es = r.entries ++ (entry 49 (kind * 65536 + n) ∷ []) in
      let own : waited_run kind n ≡ placed es (r.taken + n) (begin r.head) = rw (goes, append-nil es) in
      ap g (at ∙ own) ∙ y.blind es (r.taken + n) (begin r.head)

-- the guarded change to a plan with DLL1
module _ (pb b j : List ℕ) (fit : FitHead b) (d : Dll) (with-dll1 : (plan_of pb).dll1 ≡ Some d) where
  abbrev p : Plan
  p = plan_of pb

  abbrev h : Head
  h = head_of b

  abbrev m : HpsysDvfsMode
  m = peak_of (hz_or 0 (hclk_of h)) (hclk_hz p)

  abbrev f : Effect
  f = raise m ▸ leave_dll1 ▸ to_hxt48 ▸ set_dll 3 d ▸ delay 10

  abbrev g : Effect
  g = dividers p ▸ to_planned p ▸ back_to (reg h 5) ▸ target_rails (mode_at (hclk_hz p))

  f_mute : Mute f
  f_mute = mute_then (mute_then (mute_then (mute_then (raises m) leaves) to_hxt48_lem) (sets 3 d)) (mute_delay 10)

  g_mute : Mute g
  g_mute = behind (reg h 5) p

  whole : (a : List ℕ) → change p a (begin h) ≡ (f ▸ wait 3 a ▸ g) (begin h)
  unfolding change configure_dll
  whole a = rw with-dll1

  performs : (a : List ℕ) → change_refusal pb b j a ≡ 0 → change_call pb b j a ≡ finished ((f ▸ wait 3 a ▸ g) (begin h)) 0 b j
  unfolding change_call performed
  performs a e = rw (e, whole a)

  -- the same tests are passed with one answer
  one_answer : (a : List ℕ) → change_refusal pb b j a ≡ 0 → change_refusal pb b j (1 ∷ []) ≡ 0
  one_answer a e =
      let none = none_refused (answers_tests b j a ++ change_tests pb b) e in
      rw (not_refused 17 (ltb 4096 (length a)) search) at e

  -- nothing ends the change before its wait: it is answered done with one answer that is ready
  done : change_refusal pb b j (1 ∷ []) ≡ 0 → ((f ▸ wait 3 (1 ∷ []) ▸ g) (begin h)).stop ≡ 0
  unfolding one_ready
  done e =
      let answered = (one b fit (booked h) refl (changing pb j (1 ∷ [])) tt).good.asked.0 e in
      ap (λ (o : Left). o.refusal) (sym (performs (1 ∷ []) e)) ∙ (answered ∙ ap (λ (k : Option Dll). stop_for k (1 ∷ [])) with-dll1)

  goes : (a : List ℕ) → change_refusal pb b j a ≡ 0 → (f (begin h)).stop ≡ 0
  unfolding wait
  goes a e = by (eqb (f (begin h)).stop 0) refl
    where
      r : Run
      r = f (begin h)

      by : (t : Bool) → eqb r.stop 0 ≡ t → r.stop ≡ 0
      by true q = eqb-true r.stop 0 q
      by false q =
          let z = eqb-false r.stop 0 q in
          let stays : wait 3 (1 ∷ []) r ≡ r = unless_ended_ended (λ (k : Run). waited 3 (1 ∷ []) (poll (drop k.taken (1 ∷ []))) k) r z in
          ap (λ (k : Run). k.stop) (sym (ap g stays ∙ g_mute.ends r z)) ∙ done (one_answer a e)

  -- a change that no test refuses and that ends with 36 found no answer ready
  never : (a : List ℕ) → change_refusal pb b j a ≡ 0 → (change_call pb b j a).refusal ≡ 36 → poll a ≡ never_ready
  never a e q = by (poll a) refl
    where
      by : (k : Poll) → poll a ≡ k → k ≡ never_ready
      by never_ready s = refl
      by (ready_after n) s =
          let stop : (change_call pb b j a).refusal ≡ stop_for (Some d) a =
          (one b fit (booked h) refl (changing pb j a) tt).good.asked.0 e ∙ ap (λ (k : Option Dll). stop_for k a) with-dll1 in
          absurd (omega (arith, sym q ∙ (stop ∙ (sym (polled a) ∙ ap stop_of s))))

  abbrev made : List ℕ → Run
  made a = (f ▸ wait 3 a ▸ g) (begin h)

  pub around_wait : AroundWait pb b j
  around_wait = record {
    before = (f (begin h)).entries;
    behind = (g (begin (f (begin h)).head)).entries;
    left = written (g (begin (f (begin h)).head)).head b;
    cut = λ a e q. ap entries_of (performs a e) ∙ (entries_are (made a) 0 b j ∙ cut_short f g f_mute g_mute h (goes a e) 3 a (never a e q));
    ready = λ a n e q.
        let at = found f g f_mute g_mute h (goes a e) 3 a n q in
        let entries = ap entries_of (performs a e) ∙ (entries_are (made a) 0 b j ∙ ap (λ (k : Run). k.entries) at) in (
          entries ∙ append_assoc (f (begin h)).entries (entry 49 (3 * 65536 + n) ∷ []) (g (begin (f (begin h)).head)).entries,
          ap (λ (o : Left). o.buffer) (performs a e) ∙ ap (λ (k : Run). written k.head b) at,
        );
  }
