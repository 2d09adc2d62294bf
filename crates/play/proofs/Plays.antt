-- Effects that are lent answers: with more of them each does what it does with fewer, and then goes on.
use Prim.Native.Nat.{ℕ, ◌+◌, ◌-◌, ◌*◌, ◌≤◌}
use mathlib.Core.Path.{◌≡◌, refl, ap, sym, ◌∙◌, subst}
use mathlib.Core.Bool.{Bool, true, false, false≢true, cond}
use mathlib.Core.List.{List, [], ◌∷◌, ◌++◌, append_assoc, append-nil}
use native.Mathlib.Omega.{arith}
use lib.Dec.{eqb, leb}
use lib.ListN.{length, drop, length-append, length-drop}
use lib.Seq.{drop-append-le}
use borrow.Author.Tests.{leb-true, le-leb}
use Rattle.head.specs.declared.Head.{Head}
use Rattle.journal.specs.Run.{Run, Effect, ◌▸◌, unless_ended, ended, with_entry, Poll}
use Rattle.journal.specs.Run.{ready_after, never_ready, more, poll, waited, wait, measured, measure}
use Rattle.journal.specs.Run.{entry, hxt48_on, lpsys_hxt48_on, wait_hxt48, wait_lpsys_hxt48}
use Rattle.journal.proofs.Reached.{unless_ended_ended}
use Rattle.journal.proofs.Mute.{Mute, own, from_own, mute_takes, mute_unless_ended, mute_entry}
use Rattle.play.specs.Play.{ends_any_wait, BeginsWithWait}

-- entries are only added
pub record Adds (r r' : Run) : Type 0 where
  pub rest : List ℕ
  pub entries : r'.entries ≡ r.entries ++ rest

abbrev pub adds_none : (r r' : Run) → r'.entries ≡ r.entries → Adds r r'
adds_none r r' e = record { rest = []; entries = e ∙ sym (append-nil r.entries) }

abbrev pub adds_then : (r r' r'' : Run) → Adds r r' → Adds r' r'' → Adds r r''
adds_then r r' r'' x y = record { rest = x.rest ++ y.rest; entries = y.entries ∙ (ap (λ (l : List ℕ). l ++ y.rest) x.entries ∙ append_assoc r.entries x.rest y.rest) }

-- entries of which the first is a wait's
begins_append : (l m : List ℕ) → BeginsWithWait l → BeginsWithWait (l ++ m)
begins_append l m w = record { value = w.value; behind = w.behind ++ m; first = ap (λ (k : List ℕ). k ++ m) w.first }

begins : (v : ℕ) → BeginsWithWait (entry 49 v ∷ [])
begins v = record { value = v; behind = []; first = refl }

-- where a run with the answers `a` and one with the answers `x` more stand: at one place, or the first has run out of answers, and the other
-- has gone on, with the entry of the wait that it was in where `x` ends any wait
pub data Onward (a x : List ℕ) (r r' : Run) : Type 0 where
  same : r' ≡ r → r.taken ≤ length a → (r.stop ≡ 36 → ⊥) → Onward a x r r'
  out : r.stop ≡ 36 → (on : Adds r r') → (x ≡ ends_any_wait → BeginsWithWait on.rest) → Onward a x r r'

-- the first stays where it ran out, and the other goes on
pub further : {a x : List ℕ} {r r' q q' : Run} → q ≡ r → r.stop ≡ 36 → (on : Adds r r') → (x ≡ ends_any_wait → BeginsWithWait on.rest) → Adds r' q' → Onward a x q q'
further {a} {x} {r} {r'} {q} {q'} e s on w more =
    subst (λ (z : Run). Onward a x z q') (sym e) (out s (adds_then r r' q' on more) (λ k. begins_append on.rest more.rest (w k)))

-- a part of a call: it does nothing once answers ran out, it only adds entries, and with more answers it goes on from where it came with fewer
pub record Plays (F : List ℕ → Effect) : Type 0 where
  pub ends : (a : List ℕ) (r : Run) → r.stop ≡ 36 → F a r ≡ r
  pub adds : (a : List ℕ) (r : Run) → Adds r (F a r)
  pub onward : (a x : List ℕ) (r : Run) → r.taken ≤ length a → (r.stop ≡ 36 → ⊥) → Onward a x (F a r) (F (a ++ x) r)

pub plays_then : {F G : List ℕ → Effect} → Plays F → Plays G → Plays (λ (a : List ℕ). F a ▸ G a)
plays_then {F} {G} f g = record {
  ends = λ a r e. ap (G a) (f.ends a r e) ∙ g.ends a r e;
  adds = λ a r. adds_then r (F a r) (G a (F a r)) (f.adds a r) (g.adds a (F a r));
  onward = λ a x r t z. by a x r (f.onward a x r t z);
}
  where
    by : (a x : List ℕ) (r : Run) → Onward a x (F a r) (F (a ++ x) r) → Onward a x (G a (F a r)) (G (a ++ x) (F (a ++ x) r))
    by a x r (same e k z) = subst (λ (q : Run). Onward a x (G a (F a r)) (G (a ++ x) q)) (sym e) (g.onward a x (F a r) k z)
    by a x r (out s q w) = further (g.ends a (F a r) s) s q w (g.adds (a ++ x) (F (a ++ x) r))

-- either of two, by a test; and one that looks at the head
pub plays_if : {F G : List ℕ → Effect} (t : Bool) → Plays F → Plays G → Plays (λ (a : List ℕ). cond t (F a) (G a))
plays_if true f g = f
plays_if false f g = g

plays_either : {F G : List ℕ → Effect} (t : Bool) → Plays F → Plays G → Plays (λ (a : List ℕ) (r : Run). cond t (F a r) (G a r))
plays_either true f g = f
plays_either false f g = g

pub plays_on_head : (H : Head → List ℕ → Effect) → ((h : Head) → Plays (H h)) → Plays (λ (a : List ℕ) (r : Run). H r.head a r)
plays_on_head H f = record { ends = λ a r e. (f r.head).ends a r e; adds = λ a r. (f r.head).adds a r; onward = λ a x r t z. (f r.head).onward a x r t z }

-- an effect that is lent no answers
mute_adds : {f : Effect} → Mute f → (r : Run) → Adds r (f r)
mute_adds {f} m r = record { rest = (f (own r)).entries; entries = ap (λ (q : Run). q.entries) (from_own m r) }

pub plays_mute : {f : Effect} → Mute f → Plays (λ (a : List ℕ). f)
plays_mute {f} m = record {
  ends = λ a r e. m.ends r (λ z. omega (arith, e, z));
  adds = λ a r. mute_adds m r;
  onward = λ a x r t z. same refl (omega (arith, mute_takes m r, t)) (λ q. z (m.stops r q));
}

abbrev found : Poll → Bool
found (ready_after n) = true
found never_ready = false

abbrev count : Poll → ℕ
count (ready_after n) = n
count never_ready = 0

-- polling: a ready answer that is found is found with more answers too, and lies among those lent
pub poll_more : (a x : List ℕ) (n : ℕ) → poll a ≡ ready_after n → poll (a ++ x) ≡ ready_after n
unfolding poll
poll_more [] x n e = absurd (false≢true (ap found e))
poll_more (y ∷ a) x n e = by (eqb y 0) (poll a) refl (λ m. poll_more a x m) e
  where
    by : (t : Bool) (q : Poll) → poll a ≡ q → ((m : ℕ) → poll a ≡ ready_after m → poll (a ++ x) ≡ ready_after m) → cond t (more q) (ready_after 1) ≡ ready_after n →
        cond t (more (poll (a ++ x))) (ready_after 1) ≡ ready_after n
    by true (ready_after m) s ih e = rw (ih m s) e
    by true never_ready s ih e = absurd (false≢true (ap found e))
    by false q s ih e = e

pub poll_within : (a : List ℕ) (n : ℕ) → poll a ≡ ready_after n → n ≤ length a
unfolding poll
poll_within [] n e = absurd (false≢true (ap found e))
poll_within (y ∷ a) n e = by (eqb y 0) (poll a) refl (λ m. poll_within a m) e
  where
    by : (t : Bool) (q : Poll) → poll a ≡ q → ((m : ℕ) → poll a ≡ ready_after m → m ≤ length a) → cond t (more q) (ready_after 1) ≡ ready_after n → n ≤ length (y ∷ a)
    by true (ready_after m) s ih e = omega (arith, ih m s, ap count e)
    by true never_ready s ih e = absurd (false≢true (ap found e))
    by false q s ih e = omega (arith, ap count e)

-- where no answer is ready, one more that is ready is found
poll_next : (a y : List ℕ) → poll a ≡ never_ready → poll (a ++ (1 ∷ y)) ≡ ready_after (length a + 1)
unfolding poll
poll_next [] y e = refl
poll_next (z ∷ a) y e = by (eqb z 0) (poll a) refl (poll_next a y) e
  where
    by : (t : Bool) (q : Poll) → poll a ≡ q → (poll a ≡ never_ready → poll (a ++ (1 ∷ y)) ≡ ready_after (length a + 1)) → cond t (more q) (ready_after 1) ≡ never_ready →
        cond t (more (poll (a ++ (1 ∷ y)))) (ready_after 1) ≡ ready_after (length (z ∷ a) + 1)
    by true never_ready s ih e = rw (ih s) (ap ready_after (omega arith))
    by true (ready_after n) s ih e = absurd (false≢true (ap found (sym e)))
    by false q s ih e = absurd (false≢true (ap found (sym e)))

module _ (a x : List ℕ) (r : Run) (t : r.taken ≤ length a) (e : poll (drop r.taken a) ≡ never_ready) (q : x ≡ ends_any_wait) where
  poll_ended_after : poll (drop r.taken (a ++ x)) ≡ ready_after (length a + 1 - r.taken)
  poll_ended_after =
      let at = ap poll (drop-append-le r.taken a x t) in
      let on = ap (λ (y : List ℕ). poll (drop r.taken a ++ y)) q in
      let next = poll_next (drop r.taken a) (0 ∷ 0 ∷ []) e in
      at ∙ (on ∙ (next ∙ ap ready_after (simp length-drop (omega (arith, t)))))

  poll_ended : (n : ℕ) × (poll (drop r.taken (a ++ x)) ≡ ready_after n)
  poll_ended = (length a + 1 - r.taken, poll_ended_after)

-- a wait
pub plays_wait : (kind : ℕ) → Plays (wait kind)
unfolding wait unless_ended
plays_wait kind = record {
  ends = λ a r e. unless_ended_ended (λ (q : Run). waited kind a (poll (drop q.taken a)) q) r (λ z. omega (arith, e, z));
  adds = λ a r. added (eqb r.stop 0) a r;
  onward = λ a x r t z. by (eqb r.stop 0) a x r t z;
}
  where
    one : (q : Poll) (a : List ℕ) (r : Run) → Adds r (waited kind a q r)
    one (ready_after n) a r = record { rest = entry 49 (kind * 65536 + n) ∷ []; entries = refl }
    one never_ready a r = adds_none r _ refl

    added : (t : Bool) (a : List ℕ) (r : Run) → Adds r (cond t (waited kind a (poll (drop r.taken a)) r) r)
    added true a r = one (poll (drop r.taken a)) a r
    added false a r = adds_none r r refl

    -- out of answers: with one that is ready the wait ends
    gone : (q : Poll) (a x : List ℕ) (r : Run) → (x ≡ ends_any_wait → (n : ℕ) × (q ≡ ready_after n)) → Onward a x (waited kind a never_ready r) (waited kind (a ++ x) q r)
    gone (ready_after n) a x r w = out refl (record { rest = entry 49 (kind * 65536 + n) ∷ []; entries = refl }) (λ e. begins (kind * 65536 + n))
    gone never_ready a x r w = out refl (adds_none _ _ refl) (λ e. absurd (false≢true (ap found (w e).1)))

    on : (q : Poll) (a x : List ℕ) (r : Run) → r.taken ≤ length a → (r.stop ≡ 36 → ⊥) → poll (drop r.taken a) ≡ q →
        Onward a x (waited kind a q r) (waited kind (a ++ x) (poll (drop r.taken (a ++ x))) r)
    on never_ready a x r t z e = gone (poll (drop r.taken (a ++ x))) a x r (λ q. poll_ended a x r t e q)
    on (ready_after n) a x r t z e =
        let again : poll (drop r.taken (a ++ x)) ≡ ready_after n = ap poll (drop-append-le r.taken a x t) ∙ poll_more (drop r.taken a) x n e in
        let within = poll_within (drop r.taken a) n e in
        rw again (same refl (omega (arith, t, simp length-drop at within)) z)

    by : (t : Bool) (a x : List ℕ) (r : Run) → r.taken ≤ length a → (r.stop ≡ 36 → ⊥) →
        Onward a x (cond t (waited kind a (poll (drop r.taken a)) r) r) (cond t (waited kind (a ++ x) (poll (drop r.taken (a ++ x))) r) r)
    by true a x r t z = on (poll (drop r.taken a)) a x r t z refl
    by false a x r t z = same refl t z

-- a measurement
pub plays_measure : Plays measure
unfolding measure unless_ended
plays_measure = record {
  ends = λ a r e. unless_ended_ended (λ (q : Run). measured a (poll (drop q.taken a)) q) r (λ z. omega (arith, e, z));
  adds = λ a r. added (eqb r.stop 0) a r;
  onward = λ a x r t z. by (eqb r.stop 0) a x r t z;
}
  where
    counted : (t : Bool) (n : ℕ) (a : List ℕ) (r : Run) → Adds r (cond t (waited 5 a (ready_after n) r) (ended 36 (length a) r))
    counted true n a r = record { rest = entry 49 (327680 + n) ∷ []; entries = refl }
    counted false n a r = adds_none r _ refl

    one : (q : Poll) (a : List ℕ) (r : Run) → Adds r (measured a q r)
    one (ready_after n) a r = counted (leb (r.taken + n + 2) (length a)) (n + 2) a r
    one never_ready a r = adds_none r _ refl

    added : (t : Bool) (a : List ℕ) (r : Run) → Adds r (cond t (measured a (poll (drop r.taken a)) r) r)
    added true a r = one (poll (drop r.taken a)) a r
    added false a r = adds_none r r refl

    -- the two counts are among those lent, or not yet
    counts : (t : Bool) (n : ℕ) (a x : List ℕ) (r : Run) → (x ≡ ends_any_wait → t ≡ true) →
        Onward a x (ended 36 (length a) r) (cond t (waited 5 (a ++ x) (ready_after (n + 2)) r) (ended 36 (length (a ++ x)) r))
    counts true n a x r w = out refl (record { rest = entry 49 (5 * 65536 + (n + 2)) ∷ []; entries = refl }) (λ e. begins (5 * 65536 + (n + 2)))
    counts false n a x r w = out refl (adds_none _ _ refl) (λ e. absurd (false≢true (w e)))

    -- with the three more there is room for the counts
    room : (n : ℕ) (a x : List ℕ) (r : Run) → r.taken + n ≤ length a + 1 → x ≡ ends_any_wait → leb (r.taken + n + 2) (length (a ++ x)) ≡ true
    room n a x r l e = le-leb (r.taken + n + 2) (length (a ++ x)) (simp length-append (omega (arith, l, ap length e)))

    both : (t : Bool) (n : ℕ) (a x : List ℕ) (r : Run) → r.taken + n ≤ length a → (r.stop ≡ 36 → ⊥) → leb (r.taken + n + 2) (length a) ≡ t →
        Onward a x (cond t (waited 5 a (ready_after (n + 2)) r) (ended 36 (length a) r)) (measured (a ++ x) (ready_after n) r)
    both true n a x r l z e =
        let there = leb-true (r.taken + n + 2) (length a) e in
        rw (le-leb (r.taken + n + 2) (length (a ++ x)) (simp length-append (omega (arith, there)))) (same refl (omega (arith, there)) z)
    both false n a x r l z e = counts (leb (r.taken + n + 2) (length (a ++ x))) n a x r (λ q. room n a x r (omega (arith, l)) q)

    gone : (q : Poll) (a x : List ℕ) (r : Run) → (x ≡ ends_any_wait → (q ≡ ready_after (length a + 1 - r.taken)) × (r.taken ≤ length a)) → Onward a x (ended 36 (length a) r) (measured (a ++ x) q r)
    gone (ready_after n) a x r w = counts (leb (r.taken + n + 2) (length (a ++ x))) n a x r (λ e. room n a x r (omega (arith, (w e).1, ap count (w e).0)) e)
    gone never_ready a x r w = out refl (adds_none _ _ refl) (λ e. absurd (false≢true (ap found (w e).0)))

    on : (q : Poll) (a x : List ℕ) (r : Run) → r.taken ≤ length a → (r.stop ≡ 36 → ⊥) → poll (drop r.taken a) ≡ q →
        Onward a x (measured a q r) (measured (a ++ x) (poll (drop r.taken (a ++ x))) r)
    on never_ready a x r t z e = gone (poll (drop r.taken (a ++ x))) a x r (λ q. (poll_ended_after a x r t e q, t))
    on (ready_after n) a x r t z e =
        let again : poll (drop r.taken (a ++ x)) ≡ ready_after n = ap poll (drop-append-le r.taken a x t) ∙ poll_more (drop r.taken a) x n e in
        let within = poll_within (drop r.taken a) n e in
        rw again (both (leb (r.taken + n + 2) (length a)) n a x r (omega (arith, t, simp length-drop at within)) z refl)

    by : (t : Bool) (a x : List ℕ) (r : Run) → r.taken ≤ length a → (r.stop ≡ 36 → ⊥) →
        Onward a x (cond t (measured a (poll (drop r.taken a)) r) r) (cond t (measured (a ++ x) (poll (drop r.taken (a ++ x))) r) r)
    by true a x r t z = on (poll (drop r.taken a)) a x r t z refl
    by false a x r t z = same refl t z

-- the waits for a crystal, by its flag
pub plays_wait_hxt48 : Plays wait_hxt48
unfolding wait_hxt48
plays_wait_hxt48 = plays_on_head (λ (h : Head) (a : List ℕ) (r : Run). cond h.hxt48_ready (unless_ended (with_entry (entry 49 65536)) r) ((wait 1 a ▸ unless_ended hxt48_on) r))
    (λ h. plays_either h.hxt48_ready (plays_mute (mute_entry (entry 49 65536))) (plays_then (plays_wait 1) (plays_mute (mute_unless_ended hxt48_on (λ r q. q) (λ es t r. refl)))))

pub plays_wait_lpsys_hxt48 : Plays wait_lpsys_hxt48
unfolding wait_lpsys_hxt48
plays_wait_lpsys_hxt48 = plays_on_head (λ (h : Head) (a : List ℕ) (r : Run). cond h.lpsys_hxt48_ready (unless_ended (with_entry (entry 49 131072)) r) ((wait 2 a ▸ unless_ended lpsys_hxt48_on) r))
    (λ h. plays_either h.lpsys_hxt48_ready (plays_mute (mute_entry (entry 49 131072))) (plays_then (plays_wait 2) (plays_mute (mute_unless_ended lpsys_hxt48_on (λ r q. q) (λ es t r. refl)))))
