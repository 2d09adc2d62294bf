-- Laws of `laid`.
use Prim.Native.Nat.{ℕ, zero, suc, ◌+◌, ◌*◌, ◌-◌, ◌≤◌, ◌<◌}
use mathlib.Core.Path.{◌≡◌, ap, sym, ◌∙◌}
use mathlib.Core.List.{List, [], ◌∷◌, ◌++◌, append_assoc}
use native.Mathlib.Omega.{arith}
use native.Mathlib.Nat.{add_assoc, add-zero, zero-add, add_comm, mul-suc}
use native.Mathlib.Numerals.{add-one}
use borrow.Rule.Slice.PartMut.{put_mid}
use lib.ListN.{length, get_or, take, drop, length-append, take-append-drop}
use lib.Seq.{drop-drop, take_at, drop_at, sets, sets-eq, length-take-le}
use Rattle.record.specs.Items.{joined, laid}
use Rattle.record.proofs.Items.{joined_next, joined_length}

-- nothing laid
pub laid_none : (at : ℕ) (b : List ℕ) → laid at [] b ≡ b
unfolding laid
laid_none at b = rw add-zero (take-append-drop at b)

-- one part after the other
pub laid_next : (at : ℕ) (p q b : List ℕ) → at + (length p + length q) ≤ length b → laid (at + length p) q (laid at p b) ≡ laid at (p ++ q) b
unfolding laid
laid_next at p q b h =
    let front : List ℕ = take at b ++ p in
    let rest : List ℕ = drop (at + length p) b in
    let e : length front ≡ at + length p = length-append (take at b) p ∙ ap (λ (n : ℕ). n + length p) (length-take-le at b (omega arith)) in
    let over : drop (at + length p + length q) (front ++ rest) ≡ drop (at + length p + length q) b =
    sym (drop-drop (length q) (at + length p) (front ++ rest)) ∙ ap (drop (length q)) (drop_at front rest (at + length p) e) ∙ drop-drop (length q) (at + length p) b in
    rw (← append_assoc (take at b) p rest, take_at front rest (at + length p) e, over, length-append p q, ← add_assoc at (length p) (length q))
    (simp append_assoc)

-- the same, at a place known by an equation
pub laid_then : (at n : ℕ) (p q b : List ℕ) → n ≡ at + length p → n + length q ≤ length b → laid n q (laid at p b) ≡ laid at (p ++ q) b
laid_then at n p q b e h = rw e (laid_next at p q b (omega arith))

-- the front of the bytes
pub laid_front : (p b : List ℕ) → laid 0 p b ≡ p ++ drop (length p) b
unfolding laid
laid_front p b = rw zero-add

-- a run of stores
pub laid_sets : (at : ℕ) (vs b : List ℕ) → at + length vs ≤ length b → sets b at vs ≡ laid at vs b
unfolding laid
laid_sets at vs b h = sets-eq vs b at h ∙ append_assoc (take at b) vs (drop (at + length vs) b)

-- bytes copied over a part of as many
pub laid_part : (at k : ℕ) (vs ys b : List ℕ) → ys ≡ vs → k ≡ length vs → put_mid at k b ys ≡ laid at vs b
unfolding laid
laid_part at k vs ys b same e = rw (same, e, drop-drop (length vs) at b)

module _ {A : Type 0} (g : A → List ℕ) (size : ℕ) (sized : (x : A) → length (g x) ≡ size) where
  -- a turn of a loop that writes the items `xs` from place `at` on
  pub laid_item : (at : ℕ) (b : List ℕ) (xs : List A) (k : ℕ) (d : A) → k < length xs → at + size * (k + 1) ≤ length b →
      laid (at + size * k) (g (get_or xs k d)) (laid at (joined g (take k xs)) b) ≡ laid at (joined g (take (k + 1) xs)) b
  laid_item at b xs k d h l =
      let p : List ℕ = joined g (take k xs) in
      let n : length p ≡ size * k = joined_length g size sized (take k xs) ∙ ap (λ (m : ℕ). size * m) (length-take-le k xs (omega arith)) in
      let m : size * (k + 1) ≡ size * k + size = rw add-one (mul-suc size k) in
      let fits : at + (length p + length (g (get_or xs k d))) ≤ length b = omega (arith, n, m, sized (get_or xs k d), l) in
      rw (← n, add-one k, joined_next g xs k d h) (laid_next at p (g (get_or xs k d)) b fits)

  -- a turn of a loop that writes the items from number 1 on
  pub laid_from_one : (b : List ℕ) (xs : List A) (n : ℕ) (d : A) → 1 ≤ n → n < length xs → size * (n + 1) ≤ length b →
      laid (size * n) (g (get_or xs n d)) (laid size (joined g (take (n - 1) (drop 1 xs))) b) ≡ laid size (joined g (take (n + 1 - 1) (drop 1 xs))) b
  laid_from_one b xs zero d l h f = absurd (omega arith)
  laid_from_one b [] (suc k) d l h f = absurd (omega arith)
  laid_from_one b (x ∷ xs) (suc k) d l h f =
      let p : suc k - 1 ≡ k = omega arith in
      let q : suc k + 1 - 1 ≡ k + 1 = omega arith in
      let m : size * suc k ≡ size + size * k = mul-suc size k ∙ add_comm (size * k) size in
      let r : size * (suc k + 1) ≡ size + size * (k + 1) = rw (add-one, add-one) (mul-suc size (suc k) ∙ add_comm (size * suc k) size) in
      rw (p, q, m) (laid_item size b xs k d (omega arith) (rw r at f))
