-- What C reads of a word is what was packed, where it fits.
use Prim.Native.Nat.{ℕ, ◌+◌, ◌*◌, ◌%◌, ◌<◌}
use mathlib.Core.Path.{◌≡◌, refl}
use mathlib.Core.Bool.{Bool, true, false, cond}
use native.Mathlib.Omega.{arith}
use lib.Dec.{eqb}
use borrow.Author.Tests.{eqb-true, eqb-false, lt-ltb, le-ltb}
use Rattle.call.specs.word.{packed, refusal_in, value_in, entries_in, taken_in}

pub record Reads (word n v e t : ℕ) : Type 0 where
  pub refusal : refusal_in word ≡ n
  pub value : n ≡ 0 → value_in word ≡ v
  pub entries : entries_in word ≡ e
  pub taken : taken_in word ≡ t

-- the word of a refusal, and that of an answer without one
abbrev counted : ℕ → ℕ → ℕ → ℕ
counted low e t = low + (e * 4294967296 + t * 281474976710656)

reads_refused : (n v e t : ℕ) → (n ≡ 0 → ⊥) → n < 4294967296 → e < 65536 → t < 32768 → Reads (counted (9223372036854775808 + n) e t) n v e t
reads_refused n v e t z p q r = record {
  refusal = rw (le-ltb (counted (9223372036854775808 + n) e t) 9223372036854775808 (omega arith)) (omega (arith, p));
  value = λ x. absurd (z x);
  entries = omega (arith, p, q, r);
  taken = omega (arith, p, q, r);
}

reads_done : (v e t : ℕ) → v < 4294967296 → e < 65536 → t < 32768 → Reads (counted v e t) 0 v e t
reads_done v e t p q r = record {
  refusal = rw (lt-ltb (counted v e t) 9223372036854775808 (omega (arith, p, q, r)));
  value = λ x. omega (arith, p);
  entries = omega (arith, p, q, r);
  taken = omega (arith, p, q, r);
}

pub reads_packed : (n v e t : ℕ) → n < 4294967296 → v < 4294967296 → e < 65536 → t < 32768 → Reads (packed n v e t) n v e t
unfolding packed
reads_packed n v e t p q r s = by (eqb n 0) refl
  where
    whole_e : e % 65536 ≡ e
    whole_e = omega (arith, r)

    whole_t : t % 32768 ≡ t
    whole_t = omega (arith, s)

    by : (b : Bool) → eqb n 0 ≡ b → Reads (cond b v (9223372036854775808 + n) + (e % 65536 * 4294967296 + t % 32768 * 281474976710656)) n v e t
    by true z = rw (whole_e, whole_t, eqb-true n 0 z) (reads_done v e t q r s)
    by false z = rw (whole_e, whole_t) (reads_refused n v e t (eqb-false n 0 z) p r s)
