-- A list with the element at a place taken out, the later ones moved up, and a loop that moves them.
use Prim.Native.Nat.{ℕ, suc, ◌+◌, ◌-◌, ◌≤◌, ◌<◌}
use mathlib.Core.Path.{◌≡◌, ap, sym, ◌∙◌}
use mathlib.Core.List.{List, [], ◌∷◌, ◌++◌}
use native.Mathlib.Omega.{arith}
use native.Mathlib.Numerals.{add-one}
use native.Mathlib.Nat.{add-zero}
use lib.ListN.{length, get_or, take, drop, set, length-append, length-drop, take-append-drop, drop_of_length-le, get_or-append}
use lib.Seq.{length-take-le, take_all, take-suc, drop-cons, append_snoc, get_or-append-add, set_at, take_at, get_or-drop, get_or_at}

module _ {A : Type 0} (z : A) (ts : List A) (at : ℕ) (h : at < length ts) where
  abbrev pub up : List A
  up = take at ts ++ (drop (suc at) ts ++ (z ∷ []))

  front : length (take at ts) ≡ at
  front = length-take-le at ts (omega (arith, h))

  pub up_length : length up ≡ length ts
  up_length =
      length-append (take at ts) (drop (suc at) ts ++ (z ∷ []))
      ∙ (rw (front, length-append (drop (suc at) ts) (z ∷ []), length-drop (suc at) ts) (omega (arith, h)))

  -- what was at the next place, from `at` on
  up_next : (i : ℕ) → at ≤ i → suc i < length ts → get_or up i z ≡ get_or ts (suc i) z
  up_next i l m =
      let k : ℕ = i - at in
      let e : length (take at ts) + k ≡ i = omega (arith, front, l) in
      let n : suc at + k ≡ suc i = omega (arith, l) in
      let w : k < length (drop (suc at) ts) = rw length-drop (omega (arith, l, m)) in
      ap (λ (n : ℕ). get_or up n z) (sym e)
      ∙ (get_or-append-add (take at ts) (drop (suc at) ts ++ (z ∷ [])) k z
      ∙ (get_or-append (drop (suc at) ts) (z ∷ []) z k w
      ∙ (get_or-drop (suc at) ts k z ∙ ap (λ (n : ℕ). get_or ts n z) n)))

  up_last : (i : ℕ) → suc i ≡ length ts → get_or up i z ≡ z
  up_last i l =
      let k : ℕ = i - at in
      let e : length (take at ts) + k ≡ i = omega (arith, front, l, h) in
      let w : length (drop (suc at) ts) ≡ k = rw length-drop (omega (arith, l, h)) in
      ap (λ (n : ℕ). get_or up n z) (sym e)
      ∙ (get_or-append-add (take at ts) (drop (suc at) ts ++ (z ∷ [])) k z ∙ get_or_at (drop (suc at) ts) z [] z k w)

  -- the loop: the places passed are those of `up`, the others as they were
  pub up_start : ts ≡ take at up ++ drop at ts
  up_start = rw (take_at (take at ts) (drop (suc at) ts ++ (z ∷ [])) at front) (sym (take-append-drop at ts))

  passed : (i : ℕ) → i < length ts → length (take i up) ≡ i
  passed i m = length-take-le i up (rw up_length (omega (arith, m)))

  pub up_turn : (i : ℕ) (xs : List A) → at ≤ i → suc i < length ts → xs ≡ take i up ++ drop i ts → set xs i (get_or xs (i + 1) z) ≡ take (i + 1) up ++ drop (i + 1) ts
  up_turn i xs l m e =
      let d : drop i ts ≡ get_or ts i z ∷ drop (suc i) ts = drop-cons ts i z (omega (arith, m)) in
      let e' : xs ≡ take i up ++ (get_or ts i z ∷ drop (suc i) ts) = e ∙ ap (λ (l : List A). take i up ++ l) d in
      let n : length (take i up) + 1 ≡ i + 1 = ap (λ (n : ℕ). n + 1) (passed i (omega (arith, m))) in
      let v : get_or xs (i + 1) z ≡ get_or up i z =
      ap (λ (l : List A). get_or l (i + 1) z) e'
      ∙ (ap (λ (n : ℕ). get_or (take i up ++ (get_or ts i z ∷ drop (suc i) ts)) n z) (sym n)
      ∙ (get_or-append-add (take i up) (get_or ts i z ∷ drop (suc i) ts) 1 z ∙ (get_or-drop (suc i) ts 0 z ∙ (rw add-zero (sym (up_next i l m)))))) in
      let s : set xs i (get_or up i z) ≡ take i up ++ (get_or up i z ∷ drop (suc i) ts) =
      ap (λ (l : List A). set l i (get_or up i z)) e' ∙ set_at (take i up) (get_or ts i z) (drop (suc i) ts) (get_or up i z) i (passed i (omega (arith, m))) in
      rw (v, add-one i, take-suc up i z (rw up_length (omega (arith, m)))) (s ∙ sym (append_snoc (take i up) (get_or up i z) (drop (suc i) ts)))

  pub up_end : (i : ℕ) (xs : List A) → suc i ≡ length ts → xs ≡ take i up ++ drop i ts → set xs i z ≡ up
  up_end i xs l e =
      let m : i < length ts = omega (arith, l) in
      let none : drop (suc i) ts ≡ [] = drop_of_length-le ts {i = suc i} (omega (arith, l)) in
      let d : drop i ts ≡ get_or ts i z ∷ [] = drop-cons ts i z m ∙ ap (λ (l : List A). get_or ts i z ∷ l) none in
      let all : up ≡ take i up ++ (z ∷ []) =
      sym (take_all (suc i) up (rw up_length (omega (arith, l)))) ∙ (take-suc up i z (rw up_length m) ∙ ap (λ (x : A). take i up ++ (x ∷ [])) (up_last i l)) in
      ap (λ (l : List A). set l i z) (e ∙ ap (λ (l : List A). take i up ++ l) d) ∙ (set_at (take i up) (get_or ts i z) [] z i (passed i m) ∙ sym all)
