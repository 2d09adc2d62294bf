-- What the promise of an effect says of the machine that comes out, without a run in hand.
use Prim.Native.Nat.{ℕ, ◌≤◌}
use mathlib.Core.Path.{◌≡◌, refl, ap, ◌∙◌}
use mathlib.Core.Bool.{Bool, true, false, cond}
use mathlib.Core.List.{List}
use lib.Dec.{eqb}
use lib.ListN.{length, take, take-append-drop}
use lib.Seq.{length-take-le}
use Rattle.refusal.specs.Refusal.{number_or_zero}
use Rattle.journal.specs.declared.Machine.{Machine}
use Rattle.journal.specs.Run.{Run, Effect, unless_ended, entry, with_entry, with_head, store}
use Rattle.journal.specs.Machine.{State, state_of, machine_of, Reached, Ran}
use Rattle.head.specs.Head.{stored}

-- a run that is at the machine `m` and the journal `j`
abbrev pub present : Machine → List ℕ → Run
present m j = record { entries = take m.at j; head = m.head; taken = m.taken; stop = number_or_zero m.stop }

present_reached : (m : Machine) (j : List ℕ) → m.at ≤ length j → Reached (present m j) j m j
present_reached m j h = record {
  machine = rw (length-take-le m.at j h);
  journal = rw (length-take-le m.at j h, take-append-drop);
}

-- the machine that comes out is that of the run that comes out
pub ran_present : {f : Effect} {m m' : Machine} {j j' : List ℕ} → Ran f m m' j j' → m.at ≤ length j → state_of m' ≡ machine_of (f (present m j))
ran_present {f} {m} {m'} {j} x h = (x.does (present m j) j (present_reached m j h)).machine

-- a store does not end a call, and starts none that has ended
store_stop : (n v : ℕ) (r : Run) → (store n v r).stop ≡ r.stop
unfolding store unless_ended
store_stop n v r = by (eqb r.stop 0)
  where
    by : (t : Bool) → (cond t (with_entry (entry n v) (with_head (stored r.head n v) r)) r).stop ≡ r.stop
    by true = refl
    by false = refl

pub ran_store_stop : (n v : ℕ) {m m' : Machine} {j j' : List ℕ} → Ran (store n v) m m' j j' → m.at ≤ length j → number_or_zero m'.stop ≡ number_or_zero m.stop
ran_store_stop n v {m} {m'} {j} x h = ap (λ (w : State). w.stop) (ran_present x h) ∙ store_stop n v (present m j)
