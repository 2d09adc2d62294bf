-- How the code's state follows a run, one entry at a time.
use Prim.Native.Nat.{ℕ, suc, ◌+◌, ◌<◌}
use mathlib.Core.Path.{◌≡◌, refl, ap, sym, ◌∙◌, subst}
use mathlib.Core.Bool.{true, false}
use mathlib.Core.List.{List, [], ◌∷◌, ◌++◌, append_assoc}
use native.Mathlib.Omega.{arith}
use native.Mathlib.Numerals.{add-one}
use lib.ListN.{length, set, drop, length-append, length-drop}
use lib.Seq.{drop-cons, set-append_seam}
use borrow.Author.Tests.{eq-eqb, ne_eqb}
use Rattle.std.specs.Option.{is_some}
use Rattle.refusal.proofs.Numbers.{none_is_0, some_not_0}
use Rattle.head.specs.declared.Head.{Head}
use Rattle.journal.specs.declared.Machine.{Machine}
use Rattle.journal.specs.Run.{Run, Effect, idle, unless_ended, with_entry, with_head, ◌▸◌}
use Rattle.journal.specs.Machine.{State, state_of, machine_of, Reached, Ran}

-- a call that has ended stays where it is, any other goes on
pub unless_ended_ended : (f : Effect) (r : Run) → (r.stop ≡ 0 → ⊥) → unless_ended f r ≡ r
unfolding unless_ended
unless_ended_ended f r e = rw (ne_eqb r.stop 0 e)

pub unless_ended_on : (f : Effect) (r : Run) → r.stop ≡ 0 → unless_ended f r ≡ f r
unfolding unless_ended
unless_ended_on f r e = rw (eq-eqb r.stop 0 e)

-- what the test of a machine for its end says of its run
pub run_goes_on : (m : Machine) (r : Run) → is_some m.stop ≡ false → state_of m ≡ machine_of r → r.stop ≡ 0
run_goes_on m r e at = sym (ap (λ (w : State). w.stop) at) ∙ none_is_0 m.stop e

pub run_ended : (m : Machine) (r : Run) → is_some m.stop ≡ true → state_of m ≡ machine_of r → r.stop ≡ 0 → ⊥
run_ended m r e at z = some_not_0 m.stop e (ap (λ (w : State). w.stop) at ∙ z)

-- one entry more in a journal
next_entry : (es j₀ : List ℕ) (e : ℕ) → length es < length j₀ →
    set (es ++ drop (length es) j₀) (length es) e ≡ (es ++ (e ∷ [])) ++ drop (length es + 1) j₀
next_entry es j₀ e h =
    rw (drop-cons j₀ (length es) 0 h, add-one, set-append_seam es _ (drop (suc (length es)) j₀) e, append_assoc)

-- two effects done one after the other
pub ran_then : {f g : Effect} {m m' m'' : Machine} {j j' j'' : List ℕ} → Ran f m m' j j' → Ran g m' m'' j' j'' → Ran (f ▸ g) m m'' j j''
ran_then {f} x y = record { does = λ r j₀ at. y.does (f r) j₀ (x.does r j₀ at) }

-- nothing done
pub ran_idle : (m : Machine) (j : List ℕ) → Ran idle m m j j
ran_idle m j = record { does = λ r j₀ at. at }

-- an effect that is another one on the runs of a machine
pub ran_as : {f g : Effect} {m m' : Machine} {j j' : List ℕ} → ((r : Run) → state_of m ≡ machine_of r → f r ≡ g r) → Ran f m m' j j' → Ran g m m' j j'
ran_as {f} {g} {m} {m'} {j} {j'} same x = record { does = λ r j₀ at. subst (λ (q : Run). Reached q j₀ m' j') (same r at.machine) (x.does r j₀ at) }

-- an effect on a call that has ended, and on one that has not
pub ran_ended : (f : Effect) (m : Machine) (j : List ℕ) → is_some m.stop ≡ true → Ran (unless_ended f) m m j j
ran_ended f m j e = ran_as (λ r at. sym (unless_ended_ended f r (run_ended m r e at))) (ran_idle m j)

ran_on : (f : Effect) (m m' : Machine) (j j' : List ℕ) → is_some m.stop ≡ false → Ran f m m' j j' → Ran (unless_ended f) m m' j j'
ran_on f m m' j j' e x = ran_as (λ r at. sym (unless_ended_on f r (run_goes_on m r e at))) x

-- one that writes one entry
pub ran_entry : (f : Effect) (m m' : Machine) (j : List ℕ) (e : ℕ) → is_some m.stop ≡ false → m.at < length j →
    ((r : Run) → state_of m ≡ machine_of r → (state_of m' ≡ machine_of (f r)) × ((f r).entries ≡ r.entries ++ (e ∷ []))) →
    Ran (unless_ended f) m m' j (set j m.at e)
ran_entry f m m' j e z h does = ran_on f m m' j (set j m.at e) z (record { does = one })
  where
    one : (r : Run) (j₀ : List ℕ) → Reached r j₀ m j → Reached (f r) j₀ m' (set j m.at e)
    one r j₀ at =
        let place : m.at ≡ length r.entries = ap (λ (w : State). w.at) at.machine in
        let long = simp (length-append, length-drop) at (ap length at.journal) in
        let written = next_entry r.entries j₀ e (omega (arith, place, long)) in
        record {
          machine = (does r at.machine).0;
          journal = rw ((does r at.machine).1, place, at.journal) (written ∙ simp length-append);
        }

-- one that writes none
pub ran_quiet : (f : Effect) (m m' : Machine) (j : List ℕ) → is_some m.stop ≡ false →
    ((r : Run) → state_of m ≡ machine_of r → (state_of m' ≡ machine_of (f r)) × ((f r).entries ≡ r.entries)) → Ran (unless_ended f) m m' j j
ran_quiet f m m' j z does = ran_on f m m' j j z (record { does = none })
  where
    none : (r : Run) (j₀ : List ℕ) → Reached r j₀ m j → Reached (f r) j₀ m' j
    none r j₀ at = record {
      machine = (does r at.machine).0;
      journal = rw (does r at.machine).1 at.journal;
    }

-- one entry, and nothing else
pub ran_wrote : (m : Machine) (j : List ℕ) (e : ℕ) → is_some m.stop ≡ false → m.at < length j →
    Ran (unless_ended (with_entry e)) m (record { head = m.head; at = m.at + 1; taken = m.taken; stop = m.stop }) j (set j m.at e)
ran_wrote m j e z h = ran_entry (with_entry e) m _ j e z h (λ r at. (ap (λ (w : State). record { head = w.head; at = w.at + 1; taken = w.taken; stop = w.stop }) at ∙ simp length-append, refl))

-- another head, and no entry
pub ran_with_head : (f : Head → Head) (m : Machine) (j : List ℕ) → is_some m.stop ≡ false →
    Ran (unless_ended (λ (r : Run). with_head (f r.head) r)) m (record { head = f m.head; at = m.at; taken = m.taken; stop = m.stop }) j j
ran_with_head f m j z = ran_quiet (λ (r : Run). with_head (f r.head) r) m _ j z (λ r at. (ap (λ (w : State). record { head = f w.head; at = w.at; taken = w.taken; stop = w.stop }) at, refl))
