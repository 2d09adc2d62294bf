-- Effects that take no answers: what such a one does in the middle of a run is what it does from a beginning, with the entries before it.
use Prim.Native.Nat.{ℕ}
use mathlib.Core.Path.{◌≡◌, refl, ap, ◌∙◌}
use mathlib.Core.Bool.{Bool, true, false, cond}
use mathlib.Core.List.{List, [], ◌∷◌, ◌++◌, append_assoc, append-nil}
use native.Mathlib.Omega.{arith}
use lib.Dec.{eqb}
use Rattle.std.specs.Prelude.{Option, Some, None}
use Rattle.time.specs.declared.Hertz.{Hertz}
use Rattle.head.specs.declared.Head.{Head}
use Rattle.clock_read.specs.Hpsys.{hclk_of}
use Rattle.journal.specs.Run.{Run, Effect, begin, ◌▸◌, idle, unless_ended, halted, entry, with_entry, with_head, store, cycles, delayed, delay}
use Rattle.journal.proofs.Reached.{unless_ended_ended}

-- a run with other entries before its own, and another number of answers taken
abbrev pub placed : List ℕ → ℕ → Run → Run
placed es t r = record { entries = es ++ r.entries; head = r.head; taken = t; stop = r.stop }

-- an effect that is lent no answers: it does nothing on a call that has ended, does not end one with 36, and does not look
-- at entries or answers taken
pub record Mute (f : Effect) : Type 0 where
  pub ends : (r : Run) → (r.stop ≡ 0 → ⊥) → f r ≡ r
  pub stops : (r : Run) → (f r).stop ≡ 36 → r.stop ≡ 36
  pub blind : (es : List ℕ) (t : ℕ) (r : Run) → f (placed es t r) ≡ placed es t (f r)

-- a run with nothing written yet
abbrev pub own : Run → Run
own r = record { entries = []; head = r.head; taken = r.taken; stop = r.stop }

-- so it is the same from the start of a run as later
module _ {f : Effect} (m : Mute f) (r : Run) where
  pub from_own : f r ≡ placed r.entries r.taken (f (own r))
  from_own = ap f (rw (append-nil r.entries)) ∙ m.blind r.entries r.taken (own r)

  pub mute_takes : (f r).taken ≡ r.taken
  mute_takes = ap (λ (q : Run). q.taken) from_own

  pub from_begin : r.stop ≡ 0 → f r ≡ placed r.entries r.taken (f (begin r.head))
  from_begin z = ap f (rw (append-nil r.entries, ← z)) ∙ m.blind r.entries r.taken (begin r.head)

pub mute_idle : Mute idle
mute_idle = record { ends = λ r e. refl; stops = λ r e. e; blind = λ es t r. refl }

pub mute_unless_ended : (f : Effect) → ((r : Run) → (f r).stop ≡ 36 → r.stop ≡ 36) → ((es : List ℕ) (t : ℕ) (r : Run) → f (placed es t r) ≡ placed es t (f r)) → Mute (unless_ended f)
unfolding unless_ended
mute_unless_ended f y x = record { ends = λ r e. unless_ended_ended f r e; stops = λ r. kept (eqb r.stop 0) r; blind = λ es t r. by (eqb r.stop 0) es t r }
  where
    kept : (c : Bool) (r : Run) → (cond c (f r) r).stop ≡ 36 → r.stop ≡ 36
    kept true r e = y r e
    kept false r e = e

    by : (c : Bool) (es : List ℕ) (t : ℕ) (r : Run) → cond c (f (placed es t r)) (placed es t r) ≡ placed es t (cond c (f r) r)
    by true es t r = x es t r
    by false es t r = refl

pub mute_entry : (e : ℕ) → Mute (unless_ended (with_entry e))
mute_entry e = mute_unless_ended _ (λ r q. q) (λ es t r. rw (append_assoc es r.entries (e ∷ [])))

pub mute_store : (n v : ℕ) → Mute (store n v)
unfolding store
mute_store n v = mute_unless_ended _ (λ r q. q) (λ es t r. rw (append_assoc es r.entries (entry n v ∷ [])))

pub mute_delay : (us : ℕ) → Mute (delay us)
unfolding delay
mute_delay us = mute_unless_ended _ (λ r q. kept (hclk_of r.head) r q) (λ es t r. by (hclk_of r.head) es t r)
  where
    kept : (h : Option Hertz) (r : Run) → (delayed h us r).stop ≡ 36 → r.stop ≡ 36
    kept (Some f) r q = q
    kept None r q = absurd (omega (arith, q))

    by : (h : Option Hertz) (es : List ℕ) (t : ℕ) (r : Run) → delayed h us (placed es t r) ≡ placed es t (delayed h us r)
    by (Some f) es t r = rw (append_assoc es r.entries (entry 48 (cycles f.0 us) ∷ []))
    by None es t r = refl

pub mute_halted : (n : ℕ) → (n ≡ 36 → ⊥) → Mute (halted n)
unfolding halted
mute_halted n other = mute_unless_ended _ (λ r q. absurd (other q)) (λ es t r. refl)

pub mute_head : (f : Head → Head) → Mute (unless_ended (λ (r : Run). with_head (f r.head) r))
mute_head f = mute_unless_ended _ (λ r q. q) (λ es t r. refl)

pub mute_then : {f g : Effect} → Mute f → Mute g → Mute (f ▸ g)
mute_then {f} {g} x y = record { ends = λ r e. ap g (x.ends r e) ∙ y.ends r e; stops = λ r e. x.stops r (y.stops (f r) e); blind = λ es t r. ap g (x.blind es t r) ∙ y.blind es t (f r) }

pub mute_if : {f g : Effect} (t : Bool) → Mute f → Mute g → Mute (cond t f g)
mute_if true x y = x
mute_if false x y = y

pub mute_on_head : (f : Head → Effect) → ((h : Head) → Mute (f h)) → Mute (λ (r : Run). f r.head r)
mute_on_head f m = record { ends = λ r e. (m r.head).ends r e; stops = λ r e. (m r.head).stops r e; blind = λ es t r. (m r.head).blind es t r }
