-- What holds at every moment of a run: before its first entry and after each one.
use Prim.Native.Nat.{ℕ, zero, suc, ◌+◌, ◌*◌, ◌≤◌, ◌<◌}
use mathlib.Core.Path.{◌≡◌, refl, ap, sym, ◌∙◌, subst}
use mathlib.Core.Bool.{Bool, true, false, cond}
use mathlib.Core.List.{List, [], ◌∷◌, ◌++◌}
use native.Mathlib.Omega.{arith}
use native.Mathlib.Decide.{dec_le}
use lib.Dec.{eqb}
use lib.ListN.{length, take, drop, set, length-append}
use lib.Seq.{take_all, take-append-le}
use Rattle.std.specs.Prelude.{Option, Some, None}
use Rattle.time.specs.declared.Hertz.{Hertz}
use Rattle.clock_read.specs.Hpsys.{hclk_of}
use Rattle.head.specs.declared.Head.{Head}
use Rattle.head.specs.Head.{stored}
use Rattle.journal.specs.Run.{Run, begin, unless_ended, entry, with_entry, with_head, store, cycles, delayed, delay, Poll, ready_after, never_ready, poll, waited, wait, applied, replayed}
use Rattle.journal.proofs.Replay.{Replayed, replays_store, replays_delay, replays_wait}
use Rattle.journal.proofs.Mute.{placed}

-- `P` holds of the registers at each moment of the run `r` of a call that got the registers `l`, and the last are the run's
pub record Moments (P : List ℕ → Type 0) (l : List ℕ) (r : Run) : Type 0 where
  pub each : (k : ℕ) → P (replayed l (take k r.entries))
  pub last : Replayed l r

-- a call as it begins
pub moments_begin : (P : List ℕ → Type 0) (h : Head) → P h.regs → Moments P h.regs (begin h)
unfolding replayed
moments_begin P h p = record { each = λ k. nothing k; last = record { registers = refl } }
  where
    nothing : (k : ℕ) → P (replayed h.regs (take k []))
    nothing k = subst (λ (es : List ℕ). P (replayed h.regs es)) (sym (take_all k [] (omega arith))) p

module _ (P : List ℕ → Type 0) (l : List ℕ) where
  -- `P` holds of the present registers
  pub moments_now : (r : Run) → Moments P l r → P r.head.regs
  moments_now r m = subst P m.last.registers (subst (λ (es : List ℕ). P (replayed l es)) (take_all (length r.entries) r.entries (omega arith)) (m.each (length r.entries)))

  -- one entry more
  more_each : (es : List ℕ) (e : ℕ) → ((k : ℕ) → P (replayed l (take k es))) → P (replayed l (es ++ (e ∷ []))) → (k : ℕ) → P (replayed l (take k (es ++ (e ∷ []))))
  more_each es e before now k = by (dec_le k (length es))
    where
      by : Dec (k ≤ length es) → P (replayed l (take k (es ++ (e ∷ []))))
      by (yes h) = subst (λ (x : List ℕ). P (replayed l x)) (sym (take-append-le k es (e ∷ []) h)) (before k)
      by (no h) = subst (λ (x : List ℕ). P (replayed l x)) (sym (take_all k (es ++ (e ∷ [])) (simp length-append (omega arith)))) now

  -- a store keeps `P` at every moment where it holds of the registers with the value stored
  pub moments_store : (n v : ℕ) → n < 35 → v < 16777216 → (r : Run) → Moments P l r → P (set r.head.regs n v) → Moments P l (store n v r)
  unfolding store unless_ended
  moments_store n v p q r m now = by (eqb r.stop 0) refl
    where
      stored_run : Run
      stored_run = with_entry (entry n v) (with_head (stored r.head n v) r)

      by : (t : Bool) → eqb r.stop 0 ≡ t → Moments P l (cond t stored_run r)
      by true e =
          let after = rw e at ((replays_store n v p q).keeps l r m.last) in
          record { each = more_each r.entries (entry n v) m.each (subst P (sym after.registers) now); last = after }
      by false e = m

  -- a delay stores nothing
  pub moments_delay : (us : ℕ) → (r : Run) → Moments P l r → Moments P l (delay us r)
  unfolding delay unless_ended
  moments_delay us r m = by (eqb r.stop 0) refl
    where
      paused : (f : Option Hertz) → hclk_of r.head ≡ f → Replayed l (delayed f us r) → Moments P l (delayed f us r)
      paused (Some f) e after = record {
        each = more_each r.entries (entry 48 (cycles f.0 us)) m.each (subst P (sym after.registers) (moments_now r m));
        last = after;
      }
      paused None e after = record { each = m.each; last = after }

      by : (t : Bool) → eqb r.stop 0 ≡ t → Moments P l (cond t (delayed (hclk_of r.head) us r) r)
      by true e = paused (hclk_of r.head) refl (rw e at ((replays_delay us).keeps l r m.last))
      by false e = m

  -- a wait stores nothing
  pub moments_wait : (kind : ℕ) (a : List ℕ) (r : Run) → Moments P l r → Moments P l (wait kind a r)
  unfolding wait unless_ended
  moments_wait kind a r m = by (eqb r.stop 0) refl
    where
      found : (q : Poll) → Replayed l (waited kind a q r) → Moments P l (waited kind a q r)
      found (ready_after n) after = record {
        each = more_each r.entries (entry 49 (kind * 65536 + n)) m.each (subst P (sym after.registers) (moments_now r m));
        last = after;
      }
      found never_ready after = record { each = m.each; last = after }

      by : (t : Bool) → eqb r.stop 0 ≡ t → Moments P l (cond t (waited kind a (poll (drop r.taken a)) r) r)
      by true e = found (poll (drop r.taken a)) (rw e at ((replays_wait kind a).keeps l r m.last))
      by false e = m

-- of a property that follows from another, and of two together
pub moments_map : (P Q : List ℕ → Type 0) (l : List ℕ) (r : Run) → ((regs : List ℕ) → P regs → Q regs) → Moments P l r → Moments Q l r
moments_map P Q l r f m = record { each = λ k. f _ (m.each k); last = m.last }

pub moments_both : (P Q : List ℕ → Type 0) (l : List ℕ) (r : Run) → Moments P l r → Moments Q l r → Moments (λ (regs : List ℕ). P regs × Q regs) l r
moments_both P Q l r m n = record { each = λ k. (m.each k, n.each k); last = m.last }

-- one run after another: the second began with the registers that the first left
each_joined : (P : List ℕ → Type 0) (l xs ys : List ℕ) → ((k : ℕ) → P (replayed l (take k xs))) → ((k : ℕ) → P (replayed (replayed l xs) (take k ys))) →
    (k : ℕ) → P (replayed l (take k (xs ++ ys)))
unfolding replayed
each_joined P l [] ys p q k = q k
each_joined P l (x ∷ xs) ys p q zero = p 0
each_joined P l (x ∷ xs) ys p q (suc k) = each_joined P (applied l x) xs ys (λ n. p (suc n)) q k

replayed_joined : (l xs ys : List ℕ) → replayed l (xs ++ ys) ≡ replayed (replayed l xs) ys
unfolding replayed
replayed_joined l [] ys = refl
replayed_joined l (x ∷ xs) ys = replayed_joined (applied l x) xs ys

pub moments_joined : (P : List ℕ → Type 0) (l : List ℕ) (r q : Run) (t : ℕ) → Moments P l r → Moments P r.head.regs q → Moments P l (placed r.entries t q)
moments_joined P l r q t m n = record {
  each = each_joined P l r.entries q.entries m.each
      (λ k. subst (λ (regs : List ℕ). P (replayed regs (take k q.entries))) (sym m.last.registers) (n.each k));
  last = record {
    registers = replayed_joined l r.entries q.entries ∙ (ap (λ (regs : List ℕ). replayed regs q.entries) m.last.registers ∙ n.last.registers);
  };
}

-- the same entries and registers, whatever else is another
pub moments_same : (P : List ℕ → Type 0) (l : List ℕ) (r q : Run) → q.entries ≡ r.entries → q.head.regs ≡ r.head.regs → Moments P l r → Moments P l q
moments_same P l r q e f m = record {
  each = λ k. subst (λ (es : List ℕ). P (replayed l (take k es))) (sym e) (m.each k);
  last = record { registers = ap (replayed l) e ∙ (m.last.registers ∙ sym f) };
}
