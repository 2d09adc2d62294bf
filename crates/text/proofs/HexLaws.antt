-- Numbers in hexadecimal, one after the other.
use Prim.Native.Nat.{ℕ, zero, suc, ◌+◌, ◌<◌, ◌≤◌}
use mathlib.Core.Path.{◌≡◌, refl}
use mathlib.Core.List.{List, [], ◌∷◌, ◌++◌, append_assoc, append-nil}
use native.Mathlib.Omega.{arith}
use native.Mathlib.Numerals.{add-one}
use lib.ListN.{length, take, get_or}
use lib.Seq.{take_all}
use Rattle.digits.specs.hexadecimal.{hex_digits}
use Rattle.text.specs.Hex.{hex_of, hex_field}
use Rattle.text.specs.Text.{Puts}
use Rattle.text.proofs.Putting.{puts_then}

hex_suc : (k : ℕ) (ns : List ℕ) (i : ℕ) → i < length ns → hex_of k (take (suc i) ns) ≡ hex_of k (take i ns) ++ hex_digits k (get_or ns i 0)
unfolding hex_of
hex_suc k [] i h = absurd (omega arith)
hex_suc k (n ∷ ns) zero h = rw append-nil
hex_suc k (n ∷ ns) (suc i) h = rw (append_assoc, hex_suc k ns i (omega arith))

pub hex_next : (k : ℕ) (ns : List ℕ) (i : ℕ) → i < length ns → hex_of k (take (i + 1) ns) ≡ hex_of k (take i ns) ++ hex_digits k (get_or ns i 0)
hex_next k ns i h = rw (add-one i) (hex_suc k ns i h)

pub field_none : (k : ℕ) (ns : List ℕ) → length ns ≡ 0 → hex_field k ns ≡ 45 ∷ []
unfolding hex_field
field_none k [] e = refl
field_none k (n ∷ ns) e = absurd (omega arith)

pub field_some : (k : ℕ) (ns : List ℕ) → 0 < length ns → hex_field k ns ≡ hex_of k ns
unfolding hex_field
field_some k [] h = absurd (omega arith)
field_some k (n ∷ ns) h = refl

-- one number more of a field
pub puts_hex : (k : ℕ) (ns : List ℕ) (i : ℕ) {t t' t'' : List ℕ} {at m end : ℕ} → Puts (hex_of k (take i ns)) t at t' m →
    Puts (hex_digits k (get_or ns i 0)) t' m t'' end → i < length ns → Puts (hex_of k (take (i + 1) ns)) t at t'' end
puts_hex k ns i p q h = rw (hex_next k ns i h) (puts_then p q)

-- a blank and all of them
pub puts_field : (k : ℕ) (ns : List ℕ) (i : ℕ) {t t' t'' : List ℕ} {at m end : ℕ} → Puts (32 ∷ []) t at t' m →
    Puts (hex_of k (take i ns)) t' m t'' end → 0 < length ns → length ns ≤ i → Puts (32 ∷ hex_field k ns) t at t'' end
puts_field k ns i p q h l = rw (field_some k ns h) (puts_then p (rw (take_all i ns l) at q))
