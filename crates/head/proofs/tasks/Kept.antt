-- What holds of tasks still holds with one more at the end, and with one less; so the head still has a record.
use Prim.Native.Nat.{ℕ, zero, suc, ◌≤◌, ◌<◌}
use mathlib.Core.Path.{◌≡◌, refl, sym}
use mathlib.Core.Bool.{Bool, true, false, false≢true, not, ◌&&◌}
use mathlib.Core.List.{List, [], ◌∷◌, ◌++◌}
use native.Mathlib.Omega.{arith}
use borrow.Author.Tests.{eqb-true, eqb-false, ne_eqb}
use lib.Dec.{eqb}
use lib.ListN.{length, get_or, length-append}
use lib.Seq.{get_or-take}
use Rattle.record.proofs.Bytes.{and_left, and_right, or_left, or_right}
use Rattle.layout.specs.Layout.{most_tasks}
use Rattle.task.specs.declared.Task.{Task}
use Rattle.task.specs.Task.{no_task, task_ok, all_ok, has_id, distinct, InBytes}
use Rattle.head.specs.declared.Head.{Head}
use Rattle.head.specs.Head.{booked}
use Rattle.head.specs.Encodable.{Encodable}
use Rattle.head.specs.tasks.{without, with_task, without_task}
use Rattle.head.proofs.tasks.Holding.{booked_length, holding_encodable}

not_first : (a b : Bool) → (not a && b) ≡ true → a ≡ false
not_first true b e = absurd (false≢true e)
not_first false b e = refl

-- each task fits its bytes
abbrev pub Each : List Task → Type 0
Each ts = (k : ℕ) → k < length ts → InBytes (get_or ts k no_task)

later : (t : Task) (ts : List Task) → Each (t ∷ ts) → Each ts
later t ts each k l = each (suc k) (omega (arith, l))

first_then : (t : Task) (ts : List Task) → InBytes t → Each ts → Each (t ∷ ts)
first_then t ts x each zero l = x
first_then t ts x each (suc k) l = each k (omega (arith, l))

-- one more
module _ (t : Task) where
  pub all_more : (ts : List Task) → all_ok ts ≡ true → task_ok t ≡ true → all_ok (ts ++ (t ∷ [])) ≡ true
  unfolding all_ok
  all_more [] e p = rw p
  all_more (s ∷ ts) e p = rw (and_left (task_ok s) (all_ok ts) e) (all_more ts (and_right (task_ok s) (all_ok ts) e) p)

  has_more : (id : ℕ) (ts : List Task) → has_id id ts ≡ false → eqb t.id id ≡ false → has_id id (ts ++ (t ∷ [])) ≡ false
  unfolding has_id
  has_more id [] e p = rw p
  has_more id (s ∷ ts) e p = rw (or_left (eqb s.id id) (has_id id ts) e) (has_more id ts (or_right (eqb s.id id) (has_id id ts) e) p)

  pub distinct_more : (ts : List Task) → distinct ts ≡ true → has_id t.id ts ≡ false → distinct (ts ++ (t ∷ [])) ≡ true
  unfolding distinct has_id
  distinct_more [] e p = refl
  distinct_more (s ∷ ts) e p =
      let apart = eqb-false s.id t.id (or_left (eqb s.id t.id) (has_id t.id ts) p) in
      let other : eqb t.id s.id ≡ false = ne_eqb t.id s.id (λ q. apart (sym q)) in
      rw (has_more s.id ts (not_first (has_id s.id ts) (distinct ts) e) other)
      (distinct_more ts (and_right (not (has_id s.id ts)) (distinct ts) e) (or_right (eqb s.id t.id) (has_id t.id ts) p))

  pub each_more : (ts : List Task) → Each ts → InBytes t → Each (ts ++ (t ∷ []))
  each_more [] each x = first_then t [] x each
  each_more (s ∷ ts) each x = first_then s (ts ++ (t ∷ [])) (each 0 (omega arith)) (each_more ts (later s ts each) x)

-- one less
module _ (id : ℕ) where
  all_first : (t : Task) (ts : List Task) (b : Bool) → eqb t.id id ≡ b → task_ok t ≡ true → all_ok ts ≡ true → all_ok (without id ts) ≡ true → all_ok (without id (t ∷ ts)) ≡ true
  unfolding without all_ok
  all_first t ts true e p q r = rw e q
  all_first t ts false e p q r = rw (e, p) r

  pub all_less : (ts : List Task) → all_ok ts ≡ true → all_ok (without id ts) ≡ true
  unfolding all_ok without
  all_less [] e = refl
  all_less (t ∷ ts) e =
      let rest = and_right (task_ok t) (all_ok ts) e in
      all_first t ts (eqb t.id id) refl (and_left (task_ok t) (all_ok ts) e) rest (all_less ts rest)

  has_first : (x : ℕ) (t : Task) (ts : List Task) (b : Bool) → eqb t.id id ≡ b → eqb t.id x ≡ false → has_id x ts ≡ false → has_id x (without id ts) ≡ false → has_id x (without id (t ∷ ts)) ≡ false
  unfolding without has_id
  has_first x t ts true e p q r = rw e q
  has_first x t ts false e p q r = rw (e, p) r

  pub has_less : (x : ℕ) (ts : List Task) → has_id x ts ≡ false → has_id x (without id ts) ≡ false
  unfolding has_id without
  has_less x [] e = refl
  has_less x (t ∷ ts) e =
      let rest = or_right (eqb t.id x) (has_id x ts) e in
      has_first x t ts (eqb t.id id) refl (or_left (eqb t.id x) (has_id x ts) e) rest (has_less x ts rest)

  distinct_first : (t : Task) (ts : List Task) (b : Bool) → eqb t.id id ≡ b → has_id t.id ts ≡ false → distinct ts ≡ true → distinct (without id ts) ≡ true → distinct (without id (t ∷ ts)) ≡ true
  unfolding without distinct
  distinct_first t ts true e p q r = rw e q
  distinct_first t ts false e p q r = rw (e, has_less t.id ts p) r

  pub distinct_less : (ts : List Task) → distinct ts ≡ true → distinct (without id ts) ≡ true
  unfolding distinct without
  distinct_less [] e = refl
  distinct_less (t ∷ ts) e =
      let rest = and_right (not (has_id t.id ts)) (distinct ts) e in
      distinct_first t ts (eqb t.id id) refl (not_first (has_id t.id ts) (distinct ts) e) rest (distinct_less ts rest)

  each_first : (t : Task) (ts : List Task) (b : Bool) → eqb t.id id ≡ b → InBytes t → Each ts → Each (without id ts) → Each (without id (t ∷ ts))
  unfolding without
  each_first t ts true e x p q = rw e p
  each_first t ts false e x p q = rw e (first_then t (without id ts) x q)

  pub each_less : (ts : List Task) → Each ts → Each (without id ts)
  unfolding without
  each_less [] each = each
  each_less (t ∷ ts) each = each_first t ts (eqb t.id id) refl (each 0 (omega arith)) (later t ts each) (each_less ts (later t ts each))

  few_first : (t : Task) (ts : List Task) (b : Bool) → eqb t.id id ≡ b → length (without id ts) ≤ length ts → length (without id (t ∷ ts)) ≤ length (t ∷ ts)
  unfolding without
  few_first t ts true e p = rw e (omega arith)
  few_first t ts false e p = rw e (omega (arith, p))

  few_less : (ts : List Task) → length (without id ts) ≤ length ts
  unfolding without
  few_less [] = omega arith
  few_less (t ∷ ts) = few_first t ts (eqb t.id id) refl (few_less ts)

  -- the id is gone, where no two are alike
  gone_first : (t : Task) (ts : List Task) (b : Bool) → eqb t.id id ≡ b → has_id t.id ts ≡ false → has_id id (without id ts) ≡ false → has_id id (without id (t ∷ ts)) ≡ false
  unfolding without has_id
  gone_first t ts true e p q = rw e (rw (eqb-true t.id id e) at p)
  gone_first t ts false e p q = rw (e, e) q

  pub gone : (ts : List Task) → distinct ts ≡ true → has_id id (without id ts) ≡ false
  unfolding distinct without has_id
  gone [] e = refl
  gone (t ∷ ts) e =
      gone_first t ts (eqb t.id id) refl (not_first (has_id t.id ts) (distinct ts) e) (gone ts (and_right (not (has_id t.id ts)) (distinct ts) e))

-- a head's tasks each fit their bytes
booked_each : (h : Head) → Encodable h → Each (booked h)
booked_each h ok k l =
    let within : k < h.count = omega (arith, l, booked_length h ok) in
    rw (get_or-take h.count h.tasks k no_task within) (ok.in_bytes k within)

-- a head with a task more, or one less, still has a record
pub more_encodable : (t : Task) (h : Head) → Encodable h → h.count < most_tasks → task_ok t ≡ true → has_id t.id (booked h) ≡ false → InBytes t → Encodable (with_task t h)
more_encodable t h ok room fine new bytes =
    holding_encodable (booked h ++ (t ∷ [])) h ok (rw (length-append (booked h) (t ∷ []), booked_length h ok) (omega (arith, room))) (all_more t (booked h) ok.each fine)
    (distinct_more t (booked h) ok.apart new) (each_more t (booked h) (booked_each h ok) bytes)

pub less_encodable : (id : ℕ) (h : Head) → Encodable h → Encodable (without_task id h)
less_encodable id h ok =
    holding_encodable (without id (booked h)) h ok (omega (arith, few_less id (booked h), booked_length h ok, ok.room)) (all_less id (booked h) ok.each) (distinct_less id (booked h) ok.apart)
    (each_less id (booked h) (booked_each h ok))
