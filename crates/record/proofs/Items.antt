-- Laws of `items` and `joined`, and of an array that a loop fills from the front.
use Prim.Native.Nat.{ℕ, zero, suc, ◌+◌, ◌*◌, ◌-◌, ◌≤◌, ◌<◌}
use mathlib.Core.Path.{◌≡◌, refl, ap, sym, ◌∙◌}
use mathlib.Core.List.{List, [], ◌∷◌, ◌++◌, append_assoc, append-nil}
use native.Mathlib.Omega.{arith}
use native.Mathlib.Numerals.{add-one}
use native.Mathlib.Nat.{mul-zero, mul-suc, add_comm, mul-le-mul_left}
use lib.ListN.{length, get_or, take, drop, set, replicate, length-append, length-drop}
use lib.Seq.{drop-drop, set_at, append_snoc, take-suc, take_at, drop_at, take-add, get_or-drop}
use Rattle.record.specs.Bytes.{Bytes}
use Rattle.record.specs.Items.{items, joined}

-- item `i` of `n` ends where the last one does, or before
pub item_within : (size i n : ℕ) → i < n → size * i + size ≤ size * n
item_within size i n h = rw (← mul-suc size i) (mul-le-mul_left {m = suc i} {n = n} size h)

module _ {A : Type 0} where
  -- a store at the first place that a loop has yet to fill
  pub fill : (xs : List A) (n i : ℕ) (z a : A) → length xs ≡ i → i < n → set (xs ++ replicate (n - i) z) i a ≡ xs ++ (a ∷ []) ++ replicate (n - suc i) z
  fill xs n i z a e h =
      let q : n - i ≡ suc (n - suc i) = omega arith in
      rw q (set_at xs z (replicate (n - suc i) z) a i e ∙ sym (append_snoc xs a (replicate (n - suc i) z)))

  -- `n` items
  pub items_length : (f : List ℕ → A) (size n : ℕ) (b : List ℕ) → length (items f size n b) ≡ n
  unfolding items
  items_length f size zero b = refl
  items_length f size (suc n) b = ap suc (items_length f size n (drop size b))

  -- one more item
  pub items_next : (f : List ℕ → A) (size n : ℕ) (b : List ℕ) → items f size (suc n) b ≡ items f size n b ++ (f (drop (size * n) b) ∷ [])
  unfolding items
  items_next f size zero b = rw mul-zero
  items_next f size (suc n) b =
      ap (λ (l : List A). f b ∷ l) (items_next f size n (drop size b) ∙ rw (drop-drop, mul-suc, add_comm (size * n) size))

  -- item `k`
  pub items_at : (f : List ℕ → A) (size n : ℕ) (b : List ℕ) (k : ℕ) (d : A) → k < n → get_or (items f size n b) k d ≡ f (drop (size * k) b)
  unfolding items
  items_at f size zero b k d h = absurd (omega arith)
  items_at f size (suc n) b zero d h = rw mul-zero
  items_at f size (suc n) b (suc k) d h = items_at f size n (drop size b) k d (omega arith) ∙ rw (drop-drop, mul-suc, add_comm (size * k) size)

  -- a turn of a loop that reads the items at `at` into an array of `n` places
  pub fill_items : (f : List ℕ → A) (size at : ℕ) (b : List ℕ) (n i : ℕ) (z : A) (xs : List A) → i < n →
      xs ≡ items f size i (drop at b) ++ replicate (n - i) z →
      set xs i (f (drop (at + size * i) b)) ≡ items f size (i + 1) (drop at b) ++ replicate (n - (i + 1)) z
  fill_items f size at b n i z xs h e =
      rw (e, add-one i, items_next f size i (drop at b), drop-drop (size * i) at b)
      (fill (items f size i (drop at b)) n i z (f (drop (at + size * i) b)) (items_length f size i (drop at b)) h)

  -- a turn of a loop that reads them into the places from 1 on
  pub fill_from_one : (f : List ℕ → A) (size : ℕ) (b : List ℕ) (m n : ℕ) (z : A) (xs : List A) → 1 ≤ n → n < suc m →
      xs ≡ z ∷ (items f size (n - 1) (drop size b) ++ replicate (suc m - n) z) →
      set xs n (f (drop (size * n) b)) ≡ z ∷ (items f size (n + 1 - 1) (drop size b) ++ replicate (suc m - (n + 1)) z)
  fill_from_one f size b m zero z xs l h e = absurd (omega arith)
  fill_from_one f size b m (suc k) z xs l h e =
      let p : suc k - 1 ≡ k = omega arith in
      let q : suc m - suc k ≡ m - k = omega arith in
      let r : suc k + 1 - 1 ≡ k + 1 = omega arith in
      let s : suc m - (suc k + 1) ≡ m - (k + 1) = omega arith in
      let t : size * suc k ≡ size + size * k = mul-suc size k ∙ add_comm (size * k) size in
      let e' : xs ≡ z ∷ (items f size k (drop size b) ++ replicate (m - k) z) = rw (p, q) at e in
      rw (e', r, s, t)
      (ap (λ (l : List A). z ∷ l) (fill_items f size size b m k z (items f size k (drop size b) ++ replicate (m - k) z) (omega arith) refl))

  pub joined_append : (g : A → List ℕ) (xs ys : List A) → joined g (xs ++ ys) ≡ joined g xs ++ joined g ys
  unfolding joined
  joined_append g [] ys = refl
  joined_append g (x ∷ xs) ys = rw (joined_append g xs ys) (sym (append_assoc (g x) (joined g xs) (joined g ys)))

  -- one more item
  pub joined_next : (g : A → List ℕ) (xs : List A) (k : ℕ) (d : A) → k < length xs → joined g (take (suc k) xs) ≡ joined g (take k xs) ++ g (get_or xs k d)
  unfolding joined
  joined_next g xs k d h =
      rw (take-suc xs k d h, joined_append g (take k xs) (get_or xs k d ∷ [])) (ap (λ (l : List ℕ). joined g (take k xs) ++ l) (append-nil (g (get_or xs k d))))

  -- as many bytes as the items have together
  pub joined_length : (g : A → List ℕ) (size : ℕ) → ((x : A) → length (g x) ≡ size) → (xs : List A) → length (joined g xs) ≡ size * length xs
  unfolding joined
  joined_length g size e [] = sym (mul-zero size)
  joined_length g size e (x ∷ xs) =
      length-append (g x) (joined g xs) ∙ rw (e x, joined_length g size e xs, mul-suc size (length xs)) (add_comm size (size * length xs))

  -- the bytes of item `k`
  pub joined_at : (g : A → List ℕ) (size : ℕ) → ((x : A) → length (g x) ≡ size) → (xs : List A) (rest : List ℕ) (k : ℕ) (d : A) → k < length xs →
      take size (drop (size * k) (joined g xs ++ rest)) ≡ g (get_or xs k d)
  unfolding joined
  joined_at g size sized [] rest k d h = absurd (omega arith)
  joined_at g size sized (x ∷ xs) rest zero d h =
      rw (mul-zero, append_assoc (g x) (joined g xs) rest) (take_at (g x) (joined g xs ++ rest) size (sized x))
  joined_at g size sized (x ∷ xs) rest (suc k) d h =
      rw (
        append_assoc (g x) (joined g xs) rest,
        mul-suc size k,
        add_comm (size * k) size,
        ← drop-drop (size * k) size (g x ++ (joined g xs ++ rest)),
        drop_at (g x) (joined g xs ++ rest) size (sized x),
      )
      (joined_at g size sized xs rest k d (omega arith))

  -- what is written is read again
  pub items_of : (f : List ℕ → A) (g : A → List ℕ) (size : ℕ) → ((x : A) → length (g x) ≡ size) → (d : A) (xs : List A) (rest : List ℕ) →
      ((k : ℕ) → k < length xs → (r : List ℕ) → f (g (get_or xs k d) ++ r) ≡ get_or xs k d) → items f size (length xs) (joined g xs ++ rest) ≡ xs
  unfolding items joined
  items_of f g size sized d [] rest back = refl
  items_of f g size sized d (x ∷ xs) rest back =
      rw (append_assoc (g x) (joined g xs) rest, back 0 (omega arith) (joined g xs ++ rest), drop_at (g x) (joined g xs ++ rest) size (sized x))
      (ap (λ (l : List A). x ∷ l) (items_of f g size sized d xs rest (λ k h r. back (suc k) (omega arith) r)))

  -- what is read is written again
  pub of_items : (f : List ℕ → A) (g : A → List ℕ) (size : ℕ) → ((b : List ℕ) → size ≤ length b → Bytes b → g (f b) ≡ take size b) →
      (n : ℕ) (b : List ℕ) → size * n ≤ length b → Bytes b → joined g (items f size n b) ≡ take (size * n) b
  unfolding items joined
  of_items f g size back zero b l bytes = rw mul-zero
  of_items f g size back (suc n) b l bytes =
      let next : size * suc n ≡ size + size * n = mul-suc size n ∙ add_comm (size * n) size in
      let rest : joined g (items f size n (drop size b)) ≡ take (size * n) (drop size b) =
      of_items f g size back n (drop size b) (rw length-drop (omega arith)) (λ i. rw get_or-drop (bytes (size + i))) in
      rw (back b (omega arith) bytes, rest, next) (sym (take-add size (size * n) b))

  -- items are read from their own bytes only
  pub items_same : (f : List ℕ → A) (size : ℕ) → ((b d : List ℕ) → ((i : ℕ) → i < size → get_or b i 0 ≡ get_or d i 0) → f b ≡ f d) →
      (n : ℕ) (b d : List ℕ) → ((i : ℕ) → i < size * n → get_or b i 0 ≡ get_or d i 0) → items f size n b ≡ items f size n d
  unfolding items
  items_same f size local zero b d agree = refl
  items_same f size local (suc n) b d agree =
      let next : size * suc n ≡ size + size * n = mul-suc size n ∙ add_comm (size * n) size in
      let first : f b ≡ f d = local b d (λ i h. agree i (omega arith)) in
      let later : items f size n (drop size b) ≡ items f size n (drop size d) =
      items_same f size local n (drop size b) (drop size d) (λ i h. get_or-drop size b i 0 ∙ (agree (size + i) (omega arith) ∙ sym (get_or-drop size d i 0))) in
      rw (first, later)
