-- Bytes taken of a file, where they are known.
use Rattle.std.proofs.Common.{ℕ, ◌+◌, ◌<◌, List, [], ◌∷◌, ◌++◌, append_assoc, append-nil, length, take, set, add-one}
use Rattle.std.proofs.Math.Seq.{take-suc-set}
use Rattle.std.specs.Prelude.{◌≢◌, Option, None, Some}
use Rattle.std.proofs.lemmas.List.Elements.{All-append, All-nil, All-cons}
use Rattle.text.specs.lines.{Takes, NoFeed}

takes_then : (a b c : Option (List ℕ)) (before mid after s t : List ℕ) → Takes a b before mid s → Takes b c mid after t → Takes a c before after (s ++ t)
takes_then None b c before mid after s t p q = tt
takes_then (Some xs) None c before mid after s t p q = absurd p
takes_then (Some xs) (Some ys) None before mid after s t p q = q
takes_then (Some xs) (Some ys) (Some zs) before mid after s t p q = rw (p, q, append_assoc)

-- the bytes taken and one more, which a buffer holds after them
pub takes_byte : (a b c : Option (List ℕ)) (before mid after line : List ℕ) (n x : ℕ) → n < length line → Takes a b before mid (take n line) →
    Takes b c mid after (x ∷ []) → Takes a c before after (take (n + 1) (set line n x))
takes_byte a b c before mid after line n x h p q = rw (add-one n, take-suc-set line n x h) (takes_then a b c before mid after (take n line) (x ∷ []) p q)

-- the bytes taken, and no more at the end
pub takes_end : (a b c : Option (List ℕ)) (before mid s : List ℕ) → Takes a b before mid s → Takes b c mid [] [] → Takes a c before [] s
takes_end a b c before mid s p q = rw append-nil at (takes_then a b c before mid [] s [] p q)

pub no_feed_byte : (line : List ℕ) (n x : ℕ) → n < length line → NoFeed (take n line) → x ≢ 10 → NoFeed (take (n + 1) (set line n x))
no_feed_byte line n x h p e =
    rw (add-one n, take-suc-set line n x h) (All-append (λ b. b ≢ 10) (take n line) (x ∷ []) p (All-cons (λ b. b ≢ 10) x [] e (All-nil (λ b. b ≢ 10))))
