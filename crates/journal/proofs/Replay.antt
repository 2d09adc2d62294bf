-- Putting the stores of a call's entries into the registers that it got gives the registers that it leaves.
use Prim.Native.Nat.{ℕ, ◌+◌, ◌*◌, ◌/◌, ◌%◌, ◌<◌, ◌≤◌}
use mathlib.Core.Path.{◌≡◌, refl, ap, ◌∙◌}
use mathlib.Core.Bool.{Bool, true, false, cond}
use mathlib.Core.List.{List, [], ◌∷◌, ◌++◌}
use native.Mathlib.Omega.{arith}
use lib.Dec.{eqb, leb}
use lib.ListN.{length, drop, set}
use borrow.Author.Tests.{lt-ltb, le-ltb}
use Rattle.std.specs.Prelude.{Option, Some, None}
use Rattle.time.specs.declared.Hertz.{Hertz}
use Rattle.head.specs.declared.Head.{Head}
use Rattle.clock_read.specs.Hpsys.{hclk_of}
use Rattle.journal.specs.Run.{Run, Effect, begin, idle, ◌▸◌, unless_ended, ended, entry, with_entry, store, cycles, delayed, delay}
use Rattle.journal.specs.Run.{Poll, ready_after, never_ready, poll, waited, wait, hxt48_on, wait_hxt48, lpsys_hxt48_on, wait_lpsys_hxt48, measured, measure, applied, replayed}

-- the entries of a run put into the registers `l` give its registers
pub record Replayed (l : List ℕ) (r : Run) : Type 0 where
  pub registers : replayed l r.entries ≡ r.head.regs

-- an effect keeps that
pub record Replays (f : Effect) : Type 0 where
  pub keeps : (l : List ℕ) (r : Run) → Replayed l r → Replayed l (f r)

replayed_next : (l es : List ℕ) (e : ℕ) → replayed l (es ++ (e ∷ [])) ≡ applied (replayed l es) e
unfolding replayed
replayed_next l [] e = refl
replayed_next l (x ∷ es) e = replayed_next (applied l x) es e

-- a store's entry, and any other's
applied_store : (l : List ℕ) (n v : ℕ) → n < 35 → v < 16777216 → applied l (entry n v) ≡ set l n v
unfolding applied
applied_store l n v p q =
    let number : entry n v / 16777216 ≡ n = omega arith in
    let value : entry n v % 16777216 ≡ v = omega arith in
    rw (number, value, lt-ltb n 35 p)

applied_other : (l : List ℕ) (n v : ℕ) → 35 ≤ n → applied l (entry n v) ≡ l
unfolding applied
applied_other l n v p = rw (le-ltb (entry n v / 16777216) 35 (omega arith))

-- a call that has ended keeps what it has
replays_unless_ended : {f : Effect} → Replays f → Replays (unless_ended f)
unfolding unless_ended
replays_unless_ended {f} x = record { keeps = λ l r h. by (eqb r.stop 0) l r h }
  where
    by : (t : Bool) (l : List ℕ) (r : Run) → Replayed l r → Replayed l (cond t (f r) r)
    by true l r h = x.keeps l r h
    by false l r h = h

pub replays_idle : Replays idle
replays_idle = record { keeps = λ l r h. h }

pub replays_then : {f g : Effect} → Replays f → Replays g → Replays (f ▸ g)
replays_then {f} x y = record { keeps = λ l r h. y.keeps l (f r) (x.keeps l r h) }

-- an entry that is no store
replays_other : (n v : ℕ) → 35 ≤ n → Replays (with_entry (entry n v))
replays_other n v p = record { keeps = λ l r h. record { registers = replayed_next l r.entries (entry n v) ∙ (applied_other (replayed l r.entries) n v p ∙ h.registers) } }

pub replays_store : (n v : ℕ) → n < 35 → v < 16777216 → Replays (store n v)
unfolding store
replays_store n v p q = replays_unless_ended (record {
  keeps = λ l r h.
      let applies = applied_store (replayed l r.entries) n v p q ∙ ap (λ (x : List ℕ). set x n v) h.registers in
      record { registers = replayed_next l r.entries (entry n v) ∙ applies };
})

pub replays_delay : (us : ℕ) → Replays (delay us)
unfolding delay
replays_delay us = replays_unless_ended (record { keeps = λ l r h. by (hclk_of r.head) l r h })
  where
    by : (f : Option Hertz) (l : List ℕ) (r : Run) → Replayed l r → Replayed l (delayed f us r)
    by (Some f) l r h = (replays_other 48 (cycles f.0 us) (omega arith)).keeps l r h
    by None l r h = record { registers = h.registers }

replays_waited : (kind : ℕ) (a : List ℕ) (q : Poll) → Replays (waited kind a q)
replays_waited kind a (ready_after n) = record { keeps = λ l r h. record { registers = ((replays_other 49 (kind * 65536 + n) (omega arith)).keeps l r h).registers } }
replays_waited kind a never_ready = record { keeps = λ l r h. record { registers = h.registers } }

pub replays_wait : (kind : ℕ) (a : List ℕ) → Replays (wait kind a)
unfolding wait
replays_wait kind a = replays_unless_ended (record { keeps = λ l r h. (replays_waited kind a (poll (drop r.taken a))).keeps l r h })

pub replays_hxt48 : (a : List ℕ) → Replays (wait_hxt48 a)
unfolding wait_hxt48
replays_hxt48 a = record { keeps = λ l r h. by r.head.hxt48_ready l r h }
  where
    on : Replays hxt48_on
    on = record { keeps = λ l r h. record { registers = h.registers } }

    by : (t : Bool) (l : List ℕ) (r : Run) → Replayed l r → Replayed l (cond t (unless_ended (with_entry (entry 49 65536)) r) ((wait 1 a ▸ unless_ended hxt48_on) r))
    by true l r h = (replays_unless_ended (replays_other 49 65536 (omega arith))).keeps l r h
    by false l r h = (replays_then (replays_wait 1 a) (replays_unless_ended on)).keeps l r h

pub replays_lpsys_hxt48 : (a : List ℕ) → Replays (wait_lpsys_hxt48 a)
unfolding wait_lpsys_hxt48
replays_lpsys_hxt48 a = record { keeps = λ l r h. by r.head.lpsys_hxt48_ready l r h }
  where
    on : Replays lpsys_hxt48_on
    on = record { keeps = λ l r h. record { registers = h.registers } }

    by : (t : Bool) (l : List ℕ) (r : Run) → Replayed l r → Replayed l (cond t (unless_ended (with_entry (entry 49 131072)) r) ((wait 2 a ▸ unless_ended lpsys_hxt48_on) r))
    by true l r h = (replays_unless_ended (replays_other 49 131072 (omega arith))).keeps l r h
    by false l r h = (replays_then (replays_wait 2 a) (replays_unless_ended on)).keeps l r h

pub replays_measure : (a : List ℕ) → Replays (measure a)
unfolding measure
replays_measure a = replays_unless_ended (record { keeps = λ l r h. by (poll (drop r.taken a)) l r h })
  where
    either : (t : Bool) (n : ℕ) (l : List ℕ) (r : Run) → Replayed l r → Replayed l (cond t (waited 5 a (ready_after (n + 2)) r) (ended 36 (length a) r))
    either true n l r h = (replays_waited 5 a (ready_after (n + 2))).keeps l r h
    either false n l r h = record { registers = h.registers }

    by : (q : Poll) (l : List ℕ) (r : Run) → Replayed l r → Replayed l (measured a q r)
    by (ready_after n) l r h = either (leb (r.taken + n + 2) (length a)) n l r h
    by never_ready l r h = record { registers = h.registers }

-- the registers of a call's last moment are those that it returns
pub replay_call : (f : Effect) → Replays f → (h : Head) → replayed h.regs (f (begin h)).entries ≡ (f (begin h)).head.regs
unfolding replayed
replay_call f x h = (x.keeps h.regs (begin h) (record { registers = refl })).registers
