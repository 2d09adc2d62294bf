-- Polling, and a wait as the code makes it.
use Prim.Native.Nat.{ℕ, ◌+◌, ◌-◌, ◌*◌, ◌<◌, ◌≤◌}
use mathlib.Core.Path.{◌≡◌, refl, ap, sym, ◌∙◌, subst}
use mathlib.Core.Bool.{Bool, true, false, not}
use mathlib.Core.List.{List, [], ◌∷◌}
use native.Mathlib.Omega.{arith}
use native.Mathlib.Nat.{add_assoc, add-zero}
use lib.Dec.{leb, eqb}
use lib.ListN.{length, drop, set, length-append, length-drop}
use borrow.Author.Tests.{le-leb, lt-leb}
use Rattle.std.specs.Prelude.{Option, None, Some}
use Rattle.std.specs.Option.{is_some}
use Rattle.std.specs.List.{position, position_from}
use Rattle.std.proofs.lemmas.Iterator.Adapters.{position_from-zero}
use Rattle.refusal.specs.declared.Refusal.TheVariants.{AnswersRanOut}
use Rattle.journal.specs.declared.Machine.{Machine}
use Rattle.journal.specs.Run.{Run, Poll, ready_after, never_ready, more, poll, entry, ended, wait, measured, measure}
use Rattle.journal.specs.Machine.{State, Ran}
use Rattle.waits.specs.Found.{Found}
use Rattle.journal.proofs.Reached.{ran_entry, ran_quiet}

-- polling, one answer on
found_more : (a : List ℕ) (i r : ℕ) (q : Poll) → Found a (i + 1) r q → Found a i r (more q)
found_more a i r (ready_after n) h = (h.0, omega (arith, h.1))
found_more a i r never_ready h = h

-- an answer that ends a poll
abbrev pub ready : ℕ → Bool
ready answer = not (eqb answer 0)

-- the place of the first ready answer from `from` on, by how many stand before it, or past the last of `most`
abbrev pub place : ℕ → ℕ → Option ℕ → ℕ
place from most (Some n) = from + n
place from most None = most

module _ (a : List ℕ) (from : ℕ) where
  abbrev pub FoundBehind : ℕ → List ℕ → Type 0
  FoundBehind j xs = Found a (from + j) (place from (length a) (position_from ready j xs)) (poll xs)

  behind_first : (j x : ℕ) (xs : List ℕ) (b : Bool) → eqb x 0 ≡ b → from + (j + length (x ∷ xs)) ≡ length a → FoundBehind (j + 1) xs → FoundBehind j (x ∷ xs)
  unfolding poll
  behind_first j x xs true e l later =
      rw e (found_more a (from + j) (place from (length a) (position_from ready (j + 1) xs)) (poll xs) (rw (← add_assoc from j 1) at later))
  behind_first j x xs false e l later = rw e (omega (arith, l), refl)

  behind : (j : ℕ) (xs : List ℕ) → from + (j + length xs) ≡ length a → FoundBehind j xs
  unfolding poll
  behind j [] l = refl
  behind j (x ∷ xs) l = behind_first j x xs (eqb x 0) refl l (behind (j + 1) xs (omega (arith, l)))

  pub found_by_place : from ≤ length a → Found a from (place from (length a) (position ready (drop from a))) (poll (drop from a))
  found_by_place h = rw (position_from-zero ready (drop from a)) (rw add-zero at (behind 0 (drop from a) (rw length-drop (omega arith))))

-- what the place says of the polls
pub found_hit : (a : List ℕ) (from r : ℕ) (q : Poll) → Found a from r q → r < length a → (from ≤ r + 1) × (q ≡ ready_after (r + 1 - from))
found_hit a from r (ready_after n) f l = let e : n ≡ r + 1 - from = omega (arith, f.1) in (omega (arith, f.1), ap ready_after e)
found_hit a from r never_ready f l = absurd (omega arith)

pub found_dry : (a : List ℕ) (from r : ℕ) (q : Poll) → Found a from r q → length a ≤ r → (r ≡ length a) × (q ≡ never_ready)
found_dry a from r (ready_after n) f l = absurd (omega (arith, f.0))
found_dry a from r never_ready f l = (f, refl)

-- a place is at most past the last answer
pub found_most : (a : List ℕ) (from r : ℕ) (q : Poll) → Found a from r q → r ≤ length a
found_most a from r (ready_after n) f = omega (arith, f.0)
found_most a from r never_ready f = omega (arith, f)

-- where 36 cuts a measurement short
too_few : (a : List ℕ) (r : Run) (i : ℕ) (q : Poll) → Found a r.taken i q → length a ≤ i + 2 → measured a q r ≡ ended 36 (length a) r
too_few a r i (ready_after n) f l = rw (lt-leb (r.taken + n + 2) (length a) (omega (arith, f.1)))
too_few a r i never_ready f l = refl

-- a machine that wrote the entry of a wait that took `n` answers, and one that 36 ended
abbrev pub wrote : ℕ → Machine → Machine
wrote n m = record { head = m.head; at = m.at + 1; taken = m.taken + n; stop = m.stop }

abbrev pub ran_out : List ℕ → Machine → Machine
ran_out a m = record { head = m.head; at = m.at; taken = length a; stop = Some AnswersRanOut }

module _ (m : Machine) (j a : List ℕ) (e : is_some m.stop ≡ false) where
  -- a wait that ends, by how many answers it takes
  pub ran_hit : (kind n : ℕ) → m.at < length j → poll (drop m.taken a) ≡ ready_after n → Ran (wait kind a) m (wrote n m) j (set j m.at (entry 49 (kind * 65536 + n)))
  unfolding wait
  ran_hit kind n h f = ran_entry _ m (wrote n m) j (entry 49 (kind * 65536 + n)) e h (λ r q.
      let polls : poll (drop r.taken a) ≡ ready_after n = ap (λ (w : State). poll (drop w.taken a)) (sym q) ∙ f in
      rw polls (ap (λ (w : State). record { head = w.head; at = w.at + 1; taken = w.taken + n; stop = w.stop }) q ∙ simp length-append, refl))

  -- one that 36 cuts short
  pub ran_dry : (kind : ℕ) → poll (drop m.taken a) ≡ never_ready → Ran (wait kind a) m (ran_out a m) j j
  unfolding wait
  ran_dry kind f = ran_quiet _ m (ran_out a m) j e (λ r q.
      let polls : poll (drop r.taken a) ≡ never_ready = ap (λ (w : State). poll (drop w.taken a)) (sym q) ∙ f in
      rw polls (ap (λ (w : State). record { head = w.head; at = w.at; taken = length a; stop = 36 }) q, refl))

  -- a measurement that ends
  pub ran_measured : (n : ℕ) → m.at < length j → poll (drop m.taken a) ≡ ready_after n → m.taken + n + 2 ≤ length a →
      Ran (measure a) m (wrote (n + 2) m) j (set j m.at (entry 49 (5 * 65536 + (n + 2))))
  unfolding measure
  ran_measured n h f l = ran_entry _ m (wrote (n + 2) m) j (entry 49 (5 * 65536 + (n + 2))) e h (λ r q.
      let polls : poll (drop r.taken a) ≡ ready_after n = ap (λ (w : State). poll (drop w.taken a)) (sym q) ∙ f in
      let enough : leb (r.taken + n + 2) (length a) ≡ true = ap (λ (w : State). leb (w.taken + n + 2) (length a)) (sym q) ∙ le-leb _ _ l in
      rw (polls, enough) (ap (λ (w : State). record { head = w.head; at = w.at + 1; taken = w.taken + (n + 2); stop = w.stop }) q ∙ simp length-append, refl))

  -- one that 36 cuts short
  pub ran_unmeasured : (i : ℕ) → Found a m.taken i (poll (drop m.taken a)) → length a ≤ i + 2 → Ran (measure a) m (ran_out a m) j j
  unfolding measure
  ran_unmeasured i f l = ran_quiet _ m (ran_out a m) j e (λ r q.
      let short : measured a (poll (drop r.taken a)) r ≡ ended 36 (length a) r =
      too_few a r i (poll (drop r.taken a)) (subst (λ (w : State). Found a w.taken i (poll (drop w.taken a))) q f) l in
      rw short (ap (λ (w : State). record { head = w.head; at = w.at; taken = length a; stop = 36 }) q, refl))
