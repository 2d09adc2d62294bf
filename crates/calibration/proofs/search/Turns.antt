-- What the loop of the search keeps, turn by turn.
use Prim.Native.Nat.{ℕ, suc, ◌+◌, ◌-◌, ◌*◌, ◌/◌, ◌<◌, ◌≤◌}
use mathlib.Core.Path.{◌≡◌, ap, ◌∙◌}
use mathlib.Core.Bool.{true, cond}
use mathlib.Core.List.{List}
use native.Mathlib.Omega.{arith}
use lib.Dec.{ltb}
use lib.ListN.{length, get_or}
use borrow.Author.Tests.{lt-ltb, le-ltb}
use Rattle.std.specs.Option.{is_some}
use Rattle.journal.specs.declared.Machine.{Machine}
use Rattle.journal.specs.Run.{Run, Effect}
use Rattle.journal.specs.Machine.{State, state_of, machine_of, Answers, taking, Lent, Does, DoesWithoutJournal}
use Rattle.journal.proofs.Does.{◌then◌, same_long, lent_after, does_as, does_within, takes_none, beside}
use Rattle.journal.proofs.Ended.{ran_still}
use Rattle.calibration.specs.measure.{measurement, difference, judged_difference}
use Rattle.calibration.specs.search.{next_trim, adjusted, search}
use Rattle.calibration.proofs.search.Laws.{Ranged, ranged_next, still_adjusted, still_search}

-- the counts of a machine's last measurement
abbrev pub hxt_at : List ℕ → Machine → ℕ
hxt_at a m = get_or a (m.taken - 2) 0

abbrev pub hrc_at : List ℕ → Machine → ℕ
hrc_at a m = get_or a (m.taken - 1) 0

-- how far they are apart, and the trim that they give
abbrev pub apart_at : List ℕ → Machine → ℕ
apart_at a m = difference (hxt_at a m) (hrc_at a m)

abbrev pub next_at : ℕ → ℕ → List ℕ → Machine → ℕ
next_at trim step a m = next_trim trim step (hxt_at a m) (hrc_at a m)

-- after a measurement the search ends, or goes on
module _ (trim step : ℕ) (a : List ℕ) (more : ℕ → ℕ → Effect) (m : Machine) where
  abbrev apart : ℕ
  apart = apart_at a m

  abbrev next : ℕ
  next = next_at trim step a m

  adjusted_at : (r : Run) → state_of m ≡ machine_of r → cond (ltb apart 64) (judged_difference apart r) (more next apart r) ≡ adjusted trim step a more r
  unfolding adjusted
  adjusted_at r q =
      let taken : m.taken ≡ r.taken = ap (λ (w : State). w.taken) q in
      rw taken

  pub does_good : {k : ℕ} {m' : Machine} {j j' : List ℕ} {x : Answers} → apart < 64 →
      Does k (judged_difference apart) m m' j j' x → Does k (adjusted trim step a more) m m' j j' x
  does_good h d = does_as (λ r q. rw (lt-ltb apart 64 h) at (adjusted_at r q)) (omega arith) d

  pub does_again : {k : ℕ} {m' : Machine} {j j' : List ℕ} {x : Answers} → 64 ≤ apart →
      Does k (more next apart) m m' j j' x → Does k (adjusted trim step a more) m m' j j' x
  does_again h d = does_as (λ r q. rw (le-ltb apart 64 h) at (adjusted_at r q)) (omega arith) d

-- the whole search, from `m₀` and `j₀` to `m'` and `j'`
abbrev Searched : List ℕ → Machine → Machine → List ℕ → List ℕ → Type 0
Searched a m₀ m' j₀ j' = Does 55 (search 11 512 256 0 a) m₀ m' j₀ j' (taking a)

-- after `n` turns: the trim and its step, room for the turns left, and that doing them from here does the search
pub record Searching (a : List ℕ) (m₀ : Machine) (j₀ : List ℕ) (m : Machine) (j : List ℕ) (trim step d n : ℕ) : Type 0 where
  pub turns : n ≤ 11
  pub trims : Ranged trim step
  pub long : length j ≡ length j₀
  pub lent : Lent (5 * (11 - n)) m j (taking a)
  pub rest : {m' : Machine} {j' : List ℕ} → Does (5 * (11 - n)) (search (11 - n) trim step d a) m m' j j' (taking a) → Searched a m₀ m' j₀ j'

module _ {a : List ℕ} {m₀ : Machine} {j₀ : List ℕ} {m : Machine} {j : List ℕ} {trim step d n : ℕ} (s : Searching a m₀ j₀ m j trim step d n) where
  -- the turns are over
  pub last_turn : {m' : Machine} → 11 ≤ n → DoesWithoutJournal (judged_difference d) m m' → Searched a m₀ m' j₀ j
  unfolding search
  last_turn h judge =
      let over : 11 - n ≡ 0 = omega arith in
      s.rest (rw over (takes_none s.lent (beside judge)))

  module _ {m₁ : Machine} {j₁ : List ℕ} (more : n < 11) (measured : Does 5 (measurement trim a) m m₁ j j₁ (taking a)) where
    abbrev left : ℕ → ℕ → Effect
    left t e = search (11 - (n + 1)) t (step / 2) e a

    -- what the measurement leaves for the turns after it
    after : Lent (5 * (11 - (n + 1))) m₁ j₁ (taking a)
    after = lent_after (omega arith) s.lent measured

    -- a turn and what comes after its measurement
    turn : {m' : Machine} {j' : List ℕ} → Does (5 * (11 - (n + 1))) (adjusted trim step a left) m₁ m' j₁ j' (taking a) → Searched a m₀ m' j₀ j'
    unfolding search
    turn y =
        let one : 11 - n ≡ suc (11 - (n + 1)) = omega arith in
        s.rest (rw one (does_within (omega arith) (measured then y)))

    -- one that 34 or 36 cut short
    pub short_turn : is_some m₁.stop ≡ true → Searched a m₀ m₁ j₀ j₁
    short_turn e =
        let still = still_adjusted trim step a left (λ t e'. still_search (11 - (n + 1)) t (step / 2) e' a) in
        turn (record { ran = ran_still still m₁ j₁ e; room = omega arith; encodable = after.encodable; answers = after.answers })

    -- one that ends the search
    pub good_turn : {e : ℕ} {m' : Machine} → e ≡ apart_at a m₁ → e < 64 → DoesWithoutJournal (judged_difference e) m₁ m' → Searched a m₀ m' j₀ j₁
    good_turn q h judge = turn (does_good trim step a left m₁ (rw q at h) (does_within (omega arith) (takes_none after (beside (rw q at judge)))))

    -- one after which it goes on
    pub next_turn : {e t : ℕ} → e ≡ apart_at a m₁ → t ≡ next_at trim step a m₁ → 64 ≤ e → Searching a m₀ j₀ m₁ j₁ t (step / 2) e (n + 1)
    next_turn q u h = record {
      turns = omega arith;
      trims = rw u (ranged_next trim step (hxt_at a m₁) (hrc_at a m₁) s.trims);
      long = same_long (omega arith) s.lent measured ∙ s.long;
      lent = after;
      rest = λ y. turn (does_again trim step a left m₁ (rw q at h) (rw (q, u) at y));
    }
