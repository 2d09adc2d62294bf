-- Digits read one after the other, the number cut at the largest each time, spell the request.
use Prim.Native.Nat.{ℕ, suc, ◌+◌, ◌-◌, ◌*◌, ◌<◌, ◌≤◌, min}
use mathlib.Core.Path.{◌≡◌, refl, ap}
use mathlib.Core.Bool.{Bool, true, false, cond}
use mathlib.Core.List.{List, [], ◌∷◌}
use native.Mathlib.Omega.{arith}
use native.Mathlib.Numerals.{add-one}
use lib.Dec.{leb}
use lib.ListN.{length, get_or, drop}
use lib.Seq.{drop-cons, drop-length}
use borrow.Author.Tests.{leb-true, leb-false}
use Rattle.std.specs.Prelude.{Option, None, Some, unwrap_or}
use Rattle.digits.specs.Decimal.{most, is_digit, all_digits, spelled, longer, request_of, number_in}

-- the request of a text that goes on after the digits of `n`
abbrev pub read_on : ℕ → List ℕ → ℕ
read_on n s = min (cond (all_digits s) (spelled n s) 0) most

-- digits after a number that is too large leave it so
spelled_most : (s : List ℕ) (n : ℕ) → most ≤ n → most ≤ spelled n s
unfolding spelled
spelled_most [] n h = h
spelled_most (b ∷ s) n h = spelled_most s (n * 10 + (b - 48)) (omega arith)

-- a number may be cut before the digits after it are read
spelled_cut : (s : List ℕ) (n : ℕ) (t : Bool) → leb n most ≡ t → min (spelled (min n most) s) most ≡ min (spelled n s) most
spelled_cut s n true e =
    let fits : min n most ≡ n = omega (arith, leb-true n most e) in
    ap (λ (k : ℕ). min (spelled k s) most) fits
spelled_cut s n false e =
    let above : most < n = leb-false n most e in
    omega (arith, spelled_most s (min n most) (omega arith), spelled_most s n (omega arith))

cond_cut : (t : Bool) (x y : ℕ) → min x most ≡ min y most → min (cond t x 0) most ≡ min (cond t y 0) most
cond_cut true x y e = e
cond_cut false x y e = refl

read_digit : (n b : ℕ) (s : List ℕ) → is_digit b ≡ true → read_on (longer n b) s ≡ read_on n (b ∷ s)
unfolding all_digits spelled
read_digit n b s e = rw e (cond_cut (all_digits s) _ _ (spelled_cut s (n * 10 + (b - 48)) _ refl))

-- the loop's next byte is a digit, or is not one, or there is none
pub read_step : (s : List ℕ) (i n : ℕ) → i < length s → is_digit (get_or s i 0) ≡ true →
    read_on (longer n (get_or s i 0)) (drop (i + 1) s) ≡ read_on n (drop i s)
read_step s i n h e = rw (add-one, drop-cons s i 0 h) (read_digit n (get_or s i 0) (drop (suc i) s) e)

pub read_end : (s : List ℕ) (i n : ℕ) → i ≡ length s → n ≤ most → n ≡ read_on n (drop i s)
unfolding all_digits spelled
read_end s i n e h = rw (e, drop-length s) (omega arith)

-- a text has digits alone where the rest has, after digits; another byte ends that
pub digits_step : (s : List ℕ) (i : ℕ) → i < length s → is_digit (get_or s i 0) ≡ true → all_digits (drop (i + 1) s) ≡ all_digits (drop i s)
unfolding all_digits
digits_step s i h e = rw (add-one, drop-cons s i 0 h, e)

pub digits_other : (s : List ℕ) (i : ℕ) → i < length s → is_digit (get_or s i 0) ≡ false → all_digits (drop i s) ≡ false
unfolding all_digits
digits_other s i h e = rw (drop-cons s i 0 h, e)

pub digits_end : (s : List ℕ) (i : ℕ) → i ≡ length s → all_digits (drop i s) ≡ true
unfolding all_digits
digits_end s i e = rw (e, drop-length s)

pub number_none : (s : List ℕ) → 0 < length s → all_digits s ≡ false → None ≡ number_in s
unfolding number_in
number_none [] h e = absurd (omega arith)
number_none (b ∷ s) h e = rw e

pub number_empty : (s : List ℕ) → length s ≡ 0 → None ≡ number_in s
unfolding number_in
number_empty [] e = refl
number_empty (b ∷ s) e = absurd (omega arith)

pub number_some : (s : List ℕ) (n : ℕ) → 0 < length s → all_digits s ≡ true → n ≡ request_of s → Some n ≡ number_in s
unfolding number_in
number_some [] n h e k = absurd (omega arith)
number_some (b ∷ s) n h e k = rw (e, k)

cut_or : (t : Bool) (x : ℕ) → unwrap_or (cond t (Some (min (cond t x 0) most)) None) 0 ≡ min (cond t x 0) most
cut_or true x = refl
cut_or false x = refl

-- where a text spells none, its request is 0
number_or_zero : (s : List ℕ) → unwrap_or (number_in s) 0 ≡ request_of s
unfolding number_in request_of all_digits spelled
number_or_zero [] = refl
number_or_zero (b ∷ s) = cut_or (all_digits (b ∷ s)) (spelled 0 (b ∷ s))

pub request_is : (s : List ℕ) (found : Option ℕ) (n : ℕ) → found ≡ number_in s → n ≡ unwrap_or found 0 → n ≡ request_of s
request_is s found n e k = rw (k, e) (number_or_zero s)
