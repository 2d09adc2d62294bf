-- What functions over the machine promise, put together: `_then_` for two calls, `lent_after` for what the next call is lent.
use Prim.Native.Nat.{ℕ, ◌+◌, ◌≤◌}
use native.Mathlib.Omega.{arith}
use mathlib.Core.Path.{◌≡◌, refl, ap, ◌∙◌}
use mathlib.Core.Bool.{true, false}
use mathlib.Core.List.{List}
use lib.ListN.{length, take, length-append, length-drop, take-append-drop}
use lib.Seq.{length-take-le}
use Rattle.std.specs.Option.{is_some}
use Rattle.refusal.specs.Refusal.{number_or_zero}
use Rattle.head.specs.declared.Head.{Head}
use Rattle.head.specs.Encodable.{Encodable}
use Rattle.journal.specs.declared.Machine.{Machine}
use Rattle.journal.specs.Run.{Run, Effect, idle, ◌▸◌, unless_ended, with_head}
use Rattle.journal.specs.Machine.{State, state_of, machine_of, Reached, Answers, none, taking, InHand, Took, Lent, Does, DoesWithoutJournal}
use Rattle.journal.proofs.Reached.{ran_then, ran_idle, ran_as, ran_ended, ran_with_head}

-- the answers of two functions, one after the other
infixl 25 ◌or◌
abbrev pub ◌or◌ : Answers → Answers → Answers
x or none = x
x or taking a = taking a

took_then : (x y : Answers) (m m' m'' : Machine) → Took x m m' → Took y m' m'' → Took (x or y) m m''
took_then none none m m' m'' p q = q ∙ p
took_then (taking a) none m m' m'' p q = (omega (arith, p.0, q), p.1)
took_then none (taking b) m m' m'' p q = q
took_then (taking a) (taking b) m m' m'' p q = q

-- one function after another: effects in turn, entries added up
infixl 20 ◌then◌
pub ◌then◌ : {f g : Effect} {k l : ℕ} {m m' m'' : Machine} {j j' j'' : List ℕ} {x y : Answers} →
    Does k f m m' j j' x → Does l g m' m'' j' j'' y → Does (k + l) (f ▸ g) m m'' j j'' (x or y)
◌then◌ {x = x} {y = y} p q = record {
  ran = ran_then p.ran q.ran;
  room = omega (arith, p.room, q.room);
  encodable = q.encodable;
  answers = took_then x y _ _ _ p.answers q.answers;
}

-- the journal is as long as it was
pub same_long : {f : Effect} {k l : ℕ} {m m' : Machine} {j j' : List ℕ} {x y : Answers} →
    l ≤ k → Lent k m j x → Does l f m m' j j' y → length j' ≡ length j
same_long {f} {k} {l} {m} {m'} {j} {j'} h s d =
    let r : Run = record { entries = take m.at j; head = m.head; taken = m.taken; stop = number_or_zero m.stop } in
    let long : length (take m.at j) ≡ m.at = length-take-le m.at j (omega (arith, s.room)) in
    let before : Reached r j m j = record { machine = rw long; journal = rw (long, take-append-drop) } in
    let after = d.ran.does r j before in
    let place : m'.at ≡ length (f r).entries = ap (λ (w : State). w.at) after.machine in
    let written = simp (length-append, length-drop) at (ap length after.journal) in
    omega (arith, written, place, d.room, s.room, h)

in_hand_after : (x y : Answers) (m m' : Machine) → InHand x m → Took y m m' → InHand (x or y) m'
in_hand_after none none m m' p q = tt
in_hand_after (taking a) none m m' p q = (omega (arith, p.0, q), p.1)
in_hand_after none (taking b) m m' p q = q
in_hand_after (taking a) (taking b) m m' p q = q

-- what a function leaves of what it was lent, for the next one
pub lent_after : {f : Effect} {k l n : ℕ} {m m' : Machine} {j j' : List ℕ} {x y : Answers} →
    l + n ≤ k → Lent k m j x → Does l f m m' j j' y → Lent n m' j' (x or y)
lent_after {k = k} {l = l} {x = x} {y = y} h s d = record {
  room = omega (arith, s.room, d.room, same_long (omega arith) s d);
  encodable = d.encodable;
  answers = in_hand_after x y _ _ s.answers d.answers;
}

-- less room, and no answers, of what is lent
pub lent_within : {k n : ℕ} {m : Machine} {j : List ℕ} {x : Answers} → n ≤ k → Lent k m j x → Lent n m j x
lent_within h s = record { room = omega (arith, h, s.room); encodable = s.encodable; answers = s.answers }

pub lent_none : {k : ℕ} {m : Machine} {j : List ℕ} {x : Answers} → Lent k m j x → Lent k m j none
lent_none s = record { room = s.room; encodable = s.encodable; answers = tt }

-- the same under another name of its effect, with room to spare
pub does_as : {f g : Effect} {k l : ℕ} {m m' : Machine} {j j' : List ℕ} {x : Answers} →
    ((r : Run) → state_of m ≡ machine_of r → f r ≡ g r) → k ≤ l → Does k f m m' j j' x → Does l g m m' j j' x
does_as same h d = record { ran = ran_as same d.ran; room = omega (arith, d.room, h); encodable = d.encodable; answers = d.answers }

pub does_within : {f : Effect} {k l : ℕ} {m m' : Machine} {j j' : List ℕ} {x : Answers} → k ≤ l → Does k f m m' j j' x → Does l f m m' j j' x
does_within h d = record { ran = d.ran; room = omega (arith, d.room, h); encodable = d.encodable; answers = d.answers }

-- an effect that the head of the machine decides
pub by_head : (F : Head → Effect) {k : ℕ} {m m' : Machine} {j j' : List ℕ} {x : Answers} →
    Does k (F m.head) m m' j j' x → Does k (λ (r : Run). F r.head r) m m' j j' x
by_head F d = record {
  ran = ran_as (λ r q. ap (λ (w : State). F w.head r) q) d.ran;
  room = d.room;
  encodable = d.encodable;
  answers = d.answers;
}

took_none : (x : Answers) (m : Machine) → InHand x m → Took x m m
took_none none m p = refl
took_none (taking a) m p = p

-- nothing done
pub does_nothing : {k : ℕ} {m : Machine} {j : List ℕ} {x : Answers} → Lent k m j x → Does k idle m m j j x
does_nothing {x = x} s = record { ran = ran_idle _ _; room = omega arith; encodable = s.encodable; answers = took_none x _ s.answers }

pub does_ended : (f : Effect) {k : ℕ} {m : Machine} {j : List ℕ} {x : Answers} → Lent k m j x → is_some m.stop ≡ true → Does k (unless_ended f) m m j j x
does_ended f {x = x} s e = record { ran = ran_ended f _ _ e; room = omega arith; encodable = s.encodable; answers = took_none x _ s.answers }

-- a function that takes no answers, where some are lent
pub takes_none : {f : Effect} {k n : ℕ} {m m' : Machine} {j j₀ j' : List ℕ} {a : List ℕ} →
    Lent n m j₀ (taking a) → Does k f m m' j j' none → Does k f m m' j j' (taking a)
takes_none s d = record { ran = d.ran; room = d.room; encodable = d.encodable; answers = (omega (arith, s.answers.0, d.answers), s.answers.1) }

-- a function that is lent no journal, where there is one
pub beside : {f : Effect} {m m' : Machine} {j : List ℕ} → DoesWithoutJournal f m m' → Does 0 f m m' j j none
beside d = record { ran = d.ran _; room = omega (arith, d.room); encodable = d.encodable; answers = d.answers }

-- of functions that are lent no journal: the same under another name of its effect, nothing done, and another head
pub alone_as : {f g : Effect} {m m' : Machine} → ((r : Run) → state_of m ≡ machine_of r → f r ≡ g r) → DoesWithoutJournal f m m' → DoesWithoutJournal g m m'
alone_as same d = record { ran = λ j. ran_as same (d.ran j); room = d.room; encodable = d.encodable; answers = d.answers }

pub alone_nothing : {m : Machine} → Encodable m.head → DoesWithoutJournal idle m m
alone_nothing ok = record { ran = λ j. ran_idle _ j; room = omega arith; encodable = ok; answers = refl }

pub alone_ended : (f : Effect) {m : Machine} → Encodable m.head → is_some m.stop ≡ true → DoesWithoutJournal (unless_ended f) m m
alone_ended f ok e = record { ran = λ j. ran_ended f _ j e; room = omega arith; encodable = ok; answers = refl }

pub alone_with_head : (f : Head → Head) {m : Machine} → Encodable (f m.head) → is_some m.stop ≡ false →
    DoesWithoutJournal (unless_ended (λ (r : Run). with_head (f r.head) r)) m (record { head = f m.head; at = m.at; taken = m.taken; stop = m.stop })
alone_with_head f ok e = record { ran = λ j. ran_with_head f _ j e; room = omega arith; encodable = ok; answers = refl }
