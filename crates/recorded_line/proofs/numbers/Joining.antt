-- Answers from pairs of bytes.
use Prim.Native.Nat.{ℕ, ◌+◌, ◌*◌, ◌/◌, ◌<◌}
use mathlib.Core.Path.{◌≡◌, refl, ◌∙◌}
use mathlib.Core.List.{List, [], ◌∷◌, ◌++◌, append_assoc, append-nil}
use native.Mathlib.Omega.{arith}
use native.Mathlib.Numerals.{add-one}
use lib.ListN.{length, get_or, take, set}
use lib.Seq.{take-suc-set}
use Rattle.record.specs.Bytes.{two_bytes}
use Rattle.recorded_line.specs.numbers.{answers_in}

-- a pair is an answer before those of the rest
joined_pair : (pair rest : List ℕ) → length pair ≡ 2 → answers_in (pair ++ rest) ≡ two_bytes (get_or pair 0 0) (get_or pair 1 0) ∷ answers_in rest
unfolding answers_in
joined_pair [] rest two = absurd (omega arith)
joined_pair (high ∷ []) rest two = absurd (omega arith)
joined_pair (high ∷ low ∷ []) rest two = refl
joined_pair (high ∷ low ∷ more ∷ pair) rest two = absurd (omega arith)

-- a turn of a loop that takes a pair and puts its answer
pub joined_more : (bytes words rest pair left : List ℕ) (i : ℕ) → answers_in bytes ≡ take i words ++ answers_in rest → rest ≡ pair ++ left → length pair ≡ 2 → i < length words →
    answers_in bytes ≡ take (i + 1) (set words i (two_bytes (get_or pair 0 0) (get_or pair 1 0))) ++ answers_in left
joined_more bytes words rest pair left i before parts two room =
    let answer = two_bytes (get_or pair 0 0) (get_or pair 1 0) in
    before ∙ rw (parts, joined_pair pair left two, add-one i, take-suc-set words i answer room, append_assoc (take i words) (answer ∷ []) (answers_in left))

-- a byte alone is none
joined_end : (rest : List ℕ) → length rest < 2 → answers_in rest ≡ []
unfolding answers_in
joined_end [] few = refl
joined_end (high ∷ []) few = refl
joined_end (high ∷ low ∷ rest) few = absurd (omega arith)

pub joined_all : (bytes words rest : List ℕ) (i : ℕ) → answers_in bytes ≡ take i words ++ answers_in rest → length bytes ≡ 2 * i + length rest → length rest < 2 →
    take (length bytes / 2) words ≡ answers_in bytes
joined_all bytes words rest i all sized few =
    let half : length bytes / 2 ≡ i = omega arith in
    rw (half, all, joined_end rest few, append-nil (take i words))
