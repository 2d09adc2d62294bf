-- Entries one after the other: whether they are entries, and what their stores leave.
use Prim.Native.Nat.{ℕ, zero, suc, ◌+◌, ◌/◌, ◌%◌, ◌≤◌, ◌<◌}
use mathlib.Core.Path.{◌≡◌, refl, sym}
use mathlib.Core.Bool.{Bool, true, false, false≢true}
use mathlib.Core.List.{List, [], ◌∷◌}
use Rattle.record.proofs.Bytes.{and_left, and_right}
use native.Mathlib.Omega.{arith}
use lib.ListN.{length, get_or, drop, set, drop_of_length-le}
use lib.Seq.{drop-cons}
use borrow.Author.Tests.{lt-ltb, le-ltb}
use Rattle.journal.specs.Run.{applied, replayed}
use Rattle.moment.specs.Moment.{is_entry, are_entries}

-- all are entries just where each is one
abbrev pub Each : List ℕ → Type 0
Each es = (k : ℕ) → k < length es → is_entry (get_or es k 0) ≡ true

all_of_each : (es : List ℕ) → Each es → are_entries es ≡ true
unfolding are_entries
all_of_each [] each = refl
all_of_each (e ∷ es) each = rw (each 0 (omega arith)) (all_of_each es (λ k l. each (suc k) (omega (arith, l))))

each_of_all : (es : List ℕ) → are_entries es ≡ true → Each es
unfolding are_entries
each_of_all [] all k l = absurd (omega (arith, l))
each_of_all (e ∷ es) all zero l = and_left (is_entry e) (are_entries es) all
each_of_all (e ∷ es) all (suc k) l = each_of_all es (and_right (is_entry e) (are_entries es) all) k (omega (arith, l))

pub by_each : (r : Bool) (es : List ℕ) → (r ≡ true → Each es) × (Each es → r ≡ true) → r ≡ are_entries es
by_each true es h = sym (all_of_each es (h.0 refl))
by_each false es h = by (are_entries es) refl
  where
    by : (b : Bool) → are_entries es ≡ b → false ≡ are_entries es
    by true e = absurd (false≢true (h.1 (each_of_all es e)))
    by false e = sym e

-- an entry's store by its number, and one that is none
pub applied_store : (regs : List ℕ) (e n v : ℕ) → n ≡ e / 16777216 → v ≡ e % 16777216 → n < 35 → set regs n v ≡ applied regs e
unfolding applied
applied_store regs e n v p q h = rw (← p, ← q, lt-ltb n 35 h)

pub applied_other : (regs : List ℕ) (e n : ℕ) → n ≡ e / 16777216 → 35 ≤ n → regs ≡ applied regs e
unfolding applied
applied_other regs e n p h = rw (← p, le-ltb n 35 h)

-- the first store, then the rest
pub first_stored : (regs es : List ℕ) (i : ℕ) → i < length es → replayed regs (drop i es) ≡ replayed (applied regs (get_or es i 0)) (drop (i + 1) es)
unfolding replayed
first_stored regs es i h =
    let next : suc i ≡ i + 1 = omega arith in
    rw (drop-cons es i 0 h, next)

pub all_stored : (regs es : List ℕ) (i : ℕ) → length es ≤ i → replayed regs (drop i es) ≡ regs
unfolding replayed
all_stored regs es i h = rw (drop_of_length-le es h)
