-- The digits of a number, put into a list from its end on.
use Rattle.std.proofs.Common.{◌≡◌, ℕ, ◌+◌, ◌<◌, ◌/◌, ◌%◌, List, ◌++◌, length, drop, set, append_assoc, add-one}
use Rattle.std.proofs.lemmas.List.{drop-set}
use Rattle.digits.specs.hexadecimal.{hex_digits, glyph_of}

-- one digit more, before those that stand in the list
pub put_digit : (i k n : ℕ) (s : List ℕ) → i ≡ k + 1 → k < length s →
    hex_digits k (n / 16) ++ drop k (set s k (glyph_of (n % 16))) ≡ hex_digits i n ++ drop i s
unfolding hex_digits
put_digit i k n s e h = rw (e, drop-set s k (glyph_of (n % 16)) h, add-one k, append_assoc)

pub none_put : (i n : ℕ) (s : List ℕ) → i ≡ 0 → hex_digits i n ++ drop i s ≡ s
unfolding hex_digits
none_put i n s e = rw e
