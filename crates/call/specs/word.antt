-- The 64-bit word that a call on a head answers to C, as include/rikkovan.h documents it.
use Rattle.std.specs.Prelude.{ℕ, ◌+◌, ◌*◌, ◌/◌, ◌%◌, ◌≡◌, cond, List, eqb, ltb}
use Rattle.call.specs.Call.{Left}

-- bits 0 to 31 the refusal number or the value, 32 to 47 the journal entries written, 48 to 62 the answers taken, 63 refused
unfoldable pub packed : ℕ → ℕ → ℕ → ℕ → ℕ
packed refusal value entries taken =
    cond (eqb refusal 0) value (9223372036854775808 + refusal) + (entries % 65536 * 4294967296 + taken % 32768 * 281474976710656)

-- what C reads of a word: include/rikkovan.h, `rikkovan_refusal`, `rikkovan_value`, `rikkovan_entries` and `rikkovan_taken`
abbrev pub refusal_in : ℕ → ℕ
refusal_in word = cond (ltb word 9223372036854775808) 0 (word % 4294967296)

abbrev pub value_in : ℕ → ℕ
value_in word = word % 4294967296

abbrev pub entries_in : ℕ → ℕ
entries_in word = word / 4294967296 % 65536

abbrev pub taken_in : ℕ → ℕ
taken_in word = word / 281474976710656 % 32768

-- the word, the head's buffer and the journal that C gets are those that a call leaves
pub record Gives (o : Left) (word : ℕ) (b' j' : List ℕ) : Type 0 where
  pub answer : word ≡ packed o.refusal o.value o.entries o.taken
  pub buffer : b' ≡ o.buffer
  pub journal : j' ≡ o.journal
