-- What a look-up says of a list of tasks.
use Prim.Native.Nat.{ℕ, zero, suc, ◌/◌, ◌%◌, ◌<◌}
use mathlib.Core.Path.{◌≡◌, refl, sym, ap, ◌∙◌}
use mathlib.Core.Bool.{Bool, true, false, false≢true, not, ◌&&◌, or-true}
use mathlib.Core.List.{List, [], ◌∷◌}
use native.Mathlib.Omega.{arith}
use borrow.Author.Tests.{eq-eqb, eqb-true, eqb-false, not-true}
use lib.Dec.{eqb}
use lib.ListN.{length, get_or}
use Rattle.record.specs.Bytes.{bit}
use Rattle.record.proofs.Bytes.{and_left, and_right}
use Rattle.task.specs.declared.Task.{Task}
use Rattle.task.specs.declared.look_up.LookUp.{LookUp}
use Rattle.task.specs.declared.look_up.LookUp.TheVariants.{Hit, Miss}
use Rattle.task.specs.Task.{no_task, task_ok, all_ok, has_id, distinct}
use Rattle.task.specs.look_up.{after, look_up, value_of}

abbrev pub is_hit : LookUp → Bool
is_hit (Hit read) = true
is_hit (Miss read) = false

abbrev pub read_of : LookUp → ℕ
read_of (Hit read) = read
read_of (Miss read) = read

-- the number that C gets says both
pub value_read : (l : LookUp) → value_of l / 2 ≡ read_of l
value_read (Hit read) = omega arith
value_read (Miss read) = omega arith

pub value_hit : (l : LookUp) → value_of l % 2 ≡ bit (is_hit l)
value_hit (Hit read) = omega arith
value_hit (Miss read) = omega arith

after_hit : (n : ℕ) (l : LookUp) → is_hit (after n l) ≡ is_hit l
after_hit n (Hit read) = refl
after_hit n (Miss read) = refl

-- a hit is an id in use
hit_first : (id : ℕ) (t : Task) (ts : List Task) (b : Bool) → eqb t.id id ≡ b → is_hit (look_up id ts) ≡ has_id id ts → is_hit (look_up id (t ∷ ts)) ≡ has_id id (t ∷ ts)
unfolding look_up has_id
hit_first id t ts true e later = rw e
hit_first id t ts false e later = rw e (after_hit 1 (look_up id ts) ∙ later)

pub hit_in_use : (id : ℕ) (ts : List Task) → is_hit (look_up id ts) ≡ has_id id ts
unfolding look_up has_id
hit_in_use id [] = refl
hit_in_use id (t ∷ ts) = hit_first id t ts (eqb t.id id) refl (hit_in_use id ts)

-- the task at a place has the id
abbrev pub At : ℕ → List Task → ℕ → Type 0
At id ts k = (get_or ts k no_task).id ≡ id

-- a hit: the last task read has the id, and none before it
pub record HitAfter (id : ℕ) (ts : List Task) (read : ℕ) : Type 0 where
  pub place : ℕ
  pub count : read ≡ suc place
  pub within : place < length ts
  pub has : At id ts place
  pub first : (k : ℕ) → k < place → At id ts k → ⊥

-- a miss: all tasks were read, and none has the id
pub record MissAfter (id : ℕ) (ts : List Task) (read : ℕ) : Type 0 where
  pub all : read ≡ length ts
  pub none : (k : ℕ) → k < length ts → At id ts k → ⊥

abbrev pub Says : ℕ → List Task → LookUp → Type 0
Says id ts (Hit read) = HitAfter id ts read
Says id ts (Miss read) = MissAfter id ts read

module _ (id : ℕ) (t : Task) (ts : List Task) where
  -- a place before which no task has the id, one further on
  not_before : eqb t.id id ≡ false → (n : ℕ) → ((k : ℕ) → k < n → At id ts k → ⊥) → (k : ℕ) → k < suc n → At id (t ∷ ts) k → ⊥
  not_before e n later zero h = eqb-false t.id id e
  not_before e n later (suc k) h = later k (omega (arith, h))

  says_here : eqb t.id id ≡ true → HitAfter id (t ∷ ts) 1
  says_here e = record { place = 0; count = refl; within = omega arith; has = eqb-true t.id id e; first = λ k h. absurd (omega (arith, h)) }

  says_later : eqb t.id id ≡ false → (l : LookUp) → Says id ts l → Says id (t ∷ ts) (after 1 l)
  says_later e (Hit read) x =
      record {
        place = suc x.place;
        count = omega (arith, x.count);
        within = omega (arith, x.within);
        has = x.has;
        first = not_before e x.place x.first;
      }
  says_later e (Miss read) x = record { all = omega (arith, x.all); none = not_before e (length ts) x.none }

  says_first : (b : Bool) → eqb t.id id ≡ b → Says id ts (look_up id ts) → Says id (t ∷ ts) (look_up id (t ∷ ts))
  unfolding look_up
  says_first true e x = rw e (says_here e)
  says_first false e x = rw e (says_later e (look_up id ts) x)

pub says : (id : ℕ) (ts : List Task) → Says id ts (look_up id ts)
unfolding look_up
says id [] = record { all = refl; none = λ k h. absurd (omega (arith, h)) }
says id (t ∷ ts) = says_first id t ts (eqb t.id id) refl (says id ts)

module _ {id : ℕ} {ts : List Task} where
  pub on_hit : {read : ℕ} → look_up id ts ≡ Hit read → HitAfter id ts read
  on_hit e = rw e at (says id ts)

  pub on_miss : {read : ℕ} → look_up id ts ≡ Miss read → MissAfter id ts read
  on_miss e = rw e at (says id ts)

-- a task at a place with the id: the id is in use
has_at : (id : ℕ) (ts : List Task) (k : ℕ) → k < length ts → At id ts k → has_id id ts ≡ true
unfolding has_id
has_at id [] k h e = absurd (omega (arith, h))
has_at id (t ∷ ts) zero h e = rw (eq-eqb t.id id e)
has_at id (t ∷ ts) (suc k) h e = rw (has_at id ts k (omega (arith, h)) e) (or-true (eqb t.id id))

-- "an id stands in one place"
module _ (t : Task) (ts : List Task) (apart : (not (has_id t.id ts) && distinct ts) ≡ true) where
  not_later : (id k : ℕ) → k < length ts → t.id ≡ id → At id ts k → ⊥
  not_later id k h p q = false≢true (sym (not-true _ (and_left (not (has_id t.id ts)) (distinct ts) apart)) ∙ has_at t.id ts k h (q ∙ sym p))

  later_apart : distinct ts ≡ true
  later_apart = and_right (not (has_id t.id ts)) (distinct ts) apart

pub one_place : (id : ℕ) (ts : List Task) → distinct ts ≡ true → (j k : ℕ) → j < length ts → k < length ts → At id ts j → At id ts k → j ≡ k
unfolding distinct
one_place id [] apart j k h l p q = absurd (omega (arith, h))
one_place id (t ∷ ts) apart zero zero h l p q = refl
one_place id (t ∷ ts) apart zero (suc k) h l p q = absurd (not_later t ts apart id k (omega (arith, l)) p q)
one_place id (t ∷ ts) apart (suc j) zero h l p q = absurd (not_later t ts apart id j (omega (arith, h)) q p)
one_place id (t ∷ ts) apart (suc j) (suc k) h l p q = ap suc (one_place id ts (later_apart t ts apart) j k (omega (arith, h)) (omega (arith, l)) p q)

-- a hit is the only place of its id, and the tasks read are those up to it
module _ (id : ℕ) (ts : List Task) (apart : distinct ts ≡ true) (k : ℕ) (h : k < length ts) (e : At id ts k) where
  pub hit_only : (read : ℕ) → look_up id ts ≡ Hit read → read ≡ suc k
  hit_only read is =
      let hit = on_hit is in
      hit.count ∙ ap suc (one_place id ts apart hit.place k hit.within h hit.has e)

  hits : (l : LookUp) → look_up id ts ≡ l → look_up id ts ≡ Hit (suc k)
  hits (Hit read) is = is ∙ ap Hit (hit_only read is)
  hits (Miss read) is = absurd ((on_miss is).none k h e)

  pub hit_at : look_up id ts ≡ Hit (suc k)
  hit_at = hits (look_up id ts) refl

-- where no task has the id, all are read
module _ (id : ℕ) (ts : List Task) (none : has_id id ts ≡ false) where
  misses : (l : LookUp) → is_hit l ≡ false → Says id ts l → l ≡ Miss (length ts)
  misses (Hit read) e x = absurd (false≢true (sym e))
  misses (Miss read) e x = ap Miss x.all

  pub miss_all : look_up id ts ≡ Miss (length ts)
  miss_all = misses (look_up id ts) (hit_in_use id ts ∙ none) (says id ts)

-- no task has id 0
pub zero_unused : (ts : List Task) → all_ok ts ≡ true → has_id 0 ts ≡ false
unfolding all_ok task_ok has_id
zero_unused [] ok = refl
zero_unused (t ∷ ts) ok = rw (not-true (eqb t.id 0) (and_left (not (eqb t.id 0)) _ (and_left (task_ok t) (all_ok ts) ok))) (zero_unused ts (and_right (task_ok t) (all_ok ts) ok))
