-- An effect only appends: entries that stand before it change nothing of what it does. So it may be done on the rest of a journal, from its
-- own zero.
use Prim.Native.Nat.{ℕ, ◌+◌, ◌-◌, ◌*◌, ◌≤◌}
use mathlib.Core.Path.{◌≡◌, refl, ap, sym, ◌∙◌, subst}
use mathlib.Core.Bool.{Bool, true, false, cond}
use mathlib.Core.List.{List, [], ◌∷◌, ◌++◌, append_assoc, append-nil}
use native.Mathlib.Omega.{arith}
use lib.Dec.{eqb, leb}
use lib.ListN.{length, take, drop, length-append, length-drop, drop_of_length-le}
use lib.Seq.{drop-drop, take_all, take_at, drop_at}
use Rattle.std.specs.Prelude.{Option, Some, None}
use Rattle.time.specs.declared.Hertz.{Hertz}
use Rattle.clock_read.specs.Hpsys.{hclk_of}
use Rattle.journal.specs.declared.Machine.{Machine}
use Rattle.journal.specs.Run.{Run, Effect, idle, ◌▸◌, unless_ended, ended, entry, with_entry, store, cycles, delayed, delay, Poll, ready_after, never_ready, poll, waited, measured, measure}
use Rattle.journal.specs.Machine.{State, Reached, Ran}

-- a run with the entries `es` before its own
abbrev pub framed : List ℕ → Run → Run
framed es r = record { entries = es ++ r.entries; head = r.head; taken = r.taken; stop = r.stop }

-- an effect on such a run is the effect on the run, with the same entries before
pub record Framed (f : Effect) : Type 0 where
  pub appends : (es : List ℕ) (r : Run) → f (framed es r) ≡ framed es (f r)

pub framed_idle : Framed idle
framed_idle = record { appends = λ es r. refl }

pub framed_then : {f g : Effect} → Framed f → Framed g → Framed (f ▸ g)
framed_then {f} {g} x y = record { appends = λ es r. ap g (x.appends es r) ∙ y.appends es (f r) }

-- either of two, by a test that the entries have no part in
pub framed_cond : {f g : Effect} (t : Bool) → Framed f → Framed g → Framed (λ (r : Run). cond t (f r) (g r))
framed_cond true x y = record { appends = x.appends }
framed_cond false x y = record { appends = y.appends }

pub framed_unless_ended : {f : Effect} → Framed f → Framed (unless_ended f)
unfolding unless_ended
framed_unless_ended {f} x = record { appends = λ es r. (framed_cond (eqb r.stop 0) x framed_idle).appends es r }

framed_wrote : (e : ℕ) → Framed (with_entry e)
framed_wrote e = record { appends = λ es r. rw (append_assoc es r.entries (e ∷ [])) }

pub framed_ended : (n taken : ℕ) → Framed (ended n taken)
framed_ended n taken = record { appends = λ es r. refl }

pub framed_store : (n v : ℕ) → Framed (store n v)
unfolding store
framed_store n v = framed_unless_ended (record { appends = λ es r. rw (append_assoc es r.entries (entry n v ∷ [])) })

pub framed_delay : (us : ℕ) → Framed (delay us)
unfolding delay
framed_delay us = framed_unless_ended (record { appends = λ es r. (by (hclk_of r.head)).appends es r })
  where
    by : (f : Option Hertz) → Framed (delayed f us)
    by (Some f) = record { appends = (framed_wrote (entry 48 (cycles f.0 us))).appends }
    by None = record { appends = λ es r. refl }

pub framed_measure : (a : List ℕ) → Framed (measure a)
unfolding measure
framed_measure a = framed_unless_ended (record { appends = λ es r. by (poll (drop r.taken a)) es r })
  where
    either : (t : Bool) (n : ℕ) → Framed (λ (r : Run). cond t (waited 5 a (ready_after n) r) (ended 36 (length a) r))
    either true n = record { appends = λ es r. rw (append_assoc es r.entries (entry 49 (5 * 65536 + n) ∷ [])) }
    either false n = record { appends = λ es r. refl }

    by : (q : Poll) (es : List ℕ) (r : Run) → measured a q (framed es r) ≡ framed es (measured a q r)
    by (ready_after n) es r = (either (leb (r.taken + n + 2) (length a)) (n + 2)).appends es r
    by never_ready es r = refl

-- a machine that writes from `at` on
abbrev pub placed : ℕ → Machine → Machine
placed at m = record { head = m.head; at = at; taken = m.taken; stop = m.stop }

-- an effect done on the rest of the journal, from its own zero
module _ {f : Effect} {m m' : Machine} {j j' : List ℕ} (x : Framed f) (y : Ran f (placed 0 m) m' (drop m.at j) j') where
  module _ (r : Run) (j₀ : List ℕ) (at : Reached r j₀ m j) where
    abbrev es : List ℕ
    es = r.entries

    -- the same run, with nothing written yet
    abbrev own : Run
    own = record { entries = []; head = r.head; taken = r.taken; stop = r.stop }

    whole : f r ≡ framed es (f own)
    whole = ap f (rw (append-nil es)) ∙ x.appends es own

    place : length es ≡ m.at
    place = sym (ap (λ (w : State). w.at) at.machine)

    rest : drop m.at j ≡ drop m.at j₀
    rest = rw (at.journal, drop_at es (drop (length es) j₀) m.at place, place)

    before : take m.at j ≡ es
    before = rw (at.journal, take_at es (drop (length es) j₀) m.at place)

    part : Reached (f own) (drop m.at j) m' j'
    part = y.does own (drop m.at j) (record { machine = ap (λ (w : State). record { head = w.head; at = 0; taken = w.taken; stop = w.stop }) at.machine; journal = refl })

    joined : Reached (framed es (f own)) j₀ (placed (m.at + m'.at) m') (take m.at j ++ j')
    joined = record {
      machine = ap (λ (w : State). record { head = w.head; at = m.at + w.at; taken = w.taken; stop = w.stop }) part.machine ∙ rw (← place) (simp length-append);
      journal = rw (before, part.journal, rest, drop-drop, ← place, length-append, append_assoc);
    }

  -- is done on the whole
  pub ran_rest : Ran f m (placed (m.at + m'.at) m') j (take m.at j ++ j')
  ran_rest = record { does = λ r j₀ at. subst (λ (q : Run). Reached q j₀ (placed (m.at + m'.at) m') (take m.at j ++ j')) (sym (whole r j₀ at)) (joined r j₀ at) }

-- the same, as the code lends the rest, `&mut journal[n..]`, and gets it back
pub ran_lent : {f : Effect} {m m' : Machine} {j j' : List ℕ} → Framed f → Ran f (placed 0 m) m' (take (length j - m.at) (drop m.at j)) j' →
    Ran f m (placed (m.at + m'.at) m') j (take m.at j ++ (j' ++ drop (length j - m.at) (drop m.at j)))
ran_lent {f} {m} {m'} {j} {j'} x y =
    let long : length (drop m.at j) ≤ length j - m.at = simp length-drop (omega arith) in
    rw (drop_of_length-le (drop m.at j) long, append-nil j') (ran_rest x (rw (take_all (length j - m.at) (drop m.at j) long) at y))
