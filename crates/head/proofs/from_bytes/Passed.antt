-- What holds of bytes that are not refused.
use Prim.Native.Nat.{ℕ, ◌≤◌}
use mathlib.Core.Path.{◌≡◌, refl}
use mathlib.Core.Bool.{Bool, true, false, not, ◌&&◌}
use mathlib.Core.List.{List, [], ◌∷◌}
use native.Mathlib.Omega.{arith}
use borrow.Author.Tests.{eqb-true, leb-true, eq-eqb, le-leb}
use lib.Dec.{eqb, leb}
use lib.ListN.{length, get_or, take, drop}
use Rattle.layout.specs.Layout.{version_at, register_size, coded_size, most_tasks, length_of, buffer_bytes}
use Rattle.record.specs.Bytes.{two_bytes, is_within}
use Rattle.record.specs.Refusals.{refuse, first_of}
use Rattle.record.proofs.Bytes.{and_left, and_right}
use Rattle.task.specs.Task.{all_ok, distinct}
use Rattle.register.specs.Codes.{largest}
use Rattle.head.specs.Record.{length_fits, head_refusal}
use Rattle.task.specs.bytes.{count_in, tasks_in, tasks_fit}

-- the tests of `head_refusal`, all passed
pub record Passed (b : List ℕ) : Type 0 where
  pub length : length b ≡ buffer_bytes
  pub count : count_in b ≤ most_tasks
  pub field : two_bytes (get_or b 0 0) (get_or b 1 0) ≡ length_of (count_in b)
  pub version : get_or b version_at 0 ≡ 1
  pub codes : is_within (take coded_size (drop register_size b)) (drop register_size largest) ≡ true
  pub each : all_ok (tasks_in b) ≡ true
  pub apart : distinct (tasks_in b) ≡ true

all_passed : (t u v w : Bool) → first_of (refuse 1 (not t) ∷ refuse 2 (not u) ∷ refuse 3 (not v) ∷ refuse 3 (not w) ∷ []) ≡ 0 →
    (t ≡ true) × ((u ≡ true) × ((v ≡ true) × (w ≡ true)))
unfolding first_of
all_passed true true true true e = (refl, (refl, (refl, refl)))
all_passed false u v w e = absurd (omega arith)
all_passed true false v w e = absurd (omega arith)
all_passed true true false w e = absurd (omega arith)
all_passed true true true false e = absurd (omega arith)

-- the three tests of the lengths
fits_length : (b : List ℕ) → length_fits b ≡ true → length b ≡ buffer_bytes
unfolding length_fits
fits_length b e = eqb-true (length b) buffer_bytes (and_left (eqb (length b) buffer_bytes) (leb (count_in b) most_tasks && eqb (two_bytes (get_or b 0 0) (get_or b 1 0)) (length_of (count_in b))) e)

fits_count : (b : List ℕ) → length_fits b ≡ true → count_in b ≤ most_tasks
unfolding length_fits
fits_count b e =
    let u = leb (count_in b) most_tasks in
    let v = eqb (two_bytes (get_or b 0 0) (get_or b 1 0)) (length_of (count_in b)) in
    leb-true (count_in b) most_tasks (and_left u v (and_right (eqb (length b) buffer_bytes) (u && v) e))

fits_field : (b : List ℕ) → length_fits b ≡ true → two_bytes (get_or b 0 0) (get_or b 1 0) ≡ length_of (count_in b)
unfolding length_fits
fits_field b e =
    let u = leb (count_in b) most_tasks in
    let v = eqb (two_bytes (get_or b 0 0) (get_or b 1 0)) (length_of (count_in b)) in
    eqb-true (two_bytes (get_or b 0 0) (get_or b 1 0)) (length_of (count_in b)) (and_right u v (and_right (eqb (length b) buffer_bytes) (u && v) e))

-- bytes that are not refused have passed the tests
pub passed : (b : List ℕ) → head_refusal b ≡ 0 → Passed b
unfolding head_refusal tasks_fit
passed b e =
    let p = all_passed (length_fits b) (eqb (get_or b version_at 0) 1) (is_within (take coded_size (drop register_size b)) (drop register_size largest))
    (all_ok (tasks_in b) && distinct (tasks_in b)) e in
    record {
      length = fits_length b p.0;
      count = fits_count b p.0;
      field = fits_field b p.0;
      version = eqb-true (get_or b version_at 0) 1 p.1.0;
      codes = p.1.1.0;
      each = and_left (all_ok (tasks_in b)) (distinct (tasks_in b)) p.1.1.1;
      apart = and_right (all_ok (tasks_in b)) (distinct (tasks_in b)) p.1.1.1;
    }

-- and bytes that have passed them are not refused
pub unrefused : (b : List ℕ) → Passed b → head_refusal b ≡ 0
unfolding head_refusal length_fits tasks_fit first_of
unrefused b p =
    rw (
      eq-eqb (length b) buffer_bytes p.length,
      le-leb (count_in b) most_tasks p.count,
      eq-eqb (two_bytes (get_or b 0 0) (get_or b 1 0)) (length_of (count_in b)) p.field,
      eq-eqb (get_or b version_at 0) 1 p.version,
      p.codes,
      p.each,
      p.apart,
    )
