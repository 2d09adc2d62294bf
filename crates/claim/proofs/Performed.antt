-- What each call leaves is good, and a fit head again: calls that are refused by their tests, calls without entries, and calls that run.
use Prim.Native.Nat.{ℕ, ◌≤◌, ◌<◌}
use mathlib.Core.Path.{◌≡◌, refl, ap, sym, ◌∙◌, subst}
use mathlib.Core.Bool.{Bool, true, false, cond}
use mathlib.Core.List.{List, []}
use native.Mathlib.Omega.{arith}
use lib.Dec.{eqb}
use lib.ListN.{length, take, drop}
use lib.Seq.{take-nil, take_at}
use Rattle.task.specs.declared.Task.{Task}
use Rattle.head.specs.declared.Head.{Head}
use Rattle.head.specs.Head.{booked}
use Rattle.head.specs.Record.{head_refusal, head_of}
use Rattle.head.specs.Encodable.{Encodable}
use Rattle.head.proofs.from_bytes.Passed.{passed}
use Rattle.head.proofs.from_bytes.Encoding.{decode_encode}
use Rattle.journal.specs.Run.{Run, replayed}
use Rattle.journal.proofs.Moments.{Moments, moments_now}
use Rattle.fit.specs.Fit.{fits}
use Rattle.call.specs.Call.{Left, finished}
use Rattle.claim.specs.Moment.{head_with, SafeAt}
use Rattle.claim.specs.Claim.{Call, entries_of, moment, Safe, after, Asked, Good, FitHead}
use Rattle.claim.proofs.Heads.{safe}
use Rattle.claim.proofs.Written.{written_bytes}
use Rattle.claim.proofs.Never.{Never}

-- what a call leaves, with numbers that have room in the word that C gets
pub record InWord (o : Left) : Type 0 where
  pub refusal : o.refusal < 64
  pub value : o.value ≡ 0
  pub entries : o.entries ≤ 20
  pub taken : o.taken ≤ 4096

-- a good call that leaves a fit head
pub record Fine (b : List ℕ) (c : Call) (o : Left) (ts : List Task) : Type 0 where
  pub good : Good b c o ts
  pub next : FitHead o.buffer
  pub word : InWord o

-- nothing written and nothing taken
pub record Quiet (o : Left) : Type 0 where
  pub value : o.value ≡ 0
  pub entries : o.entries ≡ 0
  pub taken : o.taken ≡ 0

pub quiet_word : (o : Left) → Quiet o → Never o.refusal → InWord o
quiet_word o q never = record { refusal = never.small; value = q.value; entries = omega (arith, q.entries); taken = omega (arith, q.taken) }

-- a call without entries stands at the head that it got
pub no_entries : (b : List ℕ) (o : Left) → o.entries ≡ 0 → entries_of o ≡ []
no_entries b o e = ap (λ (n : ℕ). take n o.journal) e

quiet : (b es : List ℕ) → es ≡ [] → (k : ℕ) → fits (head_of b) ≡ true → Safe (head_with (head_of b) (replayed (head_of b).regs (take k es)))
unfolding replayed
quiet b es e k fit = rw (e, take-nil {A = ℕ} k) (safe (head_of b) fit)

quiet_last : (b es : List ℕ) → es ≡ [] → replayed (head_of b).regs es ≡ (head_of b).regs
unfolding replayed
quiet_last b es e = rw e

pub quiet_moments : (b : List ℕ) (o : Left) → o.entries ≡ 0 → fits (head_of b) ≡ true → (k : ℕ) → Safe (moment b o k)
quiet_moments b o e fit k = quiet b (entries_of o) (no_entries b o e) k fit

-- so its last moment is that head
pub quiet_regs : (b : List ℕ) (o : Left) → o.entries ≡ 0 → (head_of o.buffer).regs ≡ (head_of b).regs → replayed (head_of b).regs (entries_of o) ≡ (head_of o.buffer).regs
quiet_regs b o e same = quiet_last b (entries_of o) (no_entries b o e) ∙ sym same

module _ (b : List ℕ) (fit : FitHead b) (c : Call) (ts : List Task) (holds : booked (head_of b) ≡ ts) where
  -- a call that leaves the bytes as they were
  pub unchanged : (o : Left) → Quiet o → o.buffer ≡ b → after c o.refusal ts ≡ ts → Asked c b o ts → Never o.refusal → Fine b c o ts
  unchanged o silent same kept asked never =
      record {
        good = record {
          moments = quiet_moments b o silent.entries fit.fit;
          last = quiet_regs b o silent.entries (ap (λ (x : List ℕ). (head_of x).regs) same);
          returns = ap head_refusal same ∙ fit.read;
          tasks = ap (λ (x : List ℕ). booked (head_of x)) same ∙ (holds ∙ sym kept);
          asked = subst (Asked c b o) (sym kept) asked;
          never_37 = never.unfit;
          never_34 = never.unread;
        };
        next = subst FitHead (sym same) fit;
        word = quiet_word o silent never;
      }

  -- a call that ran
  module _ (r : Run) (j : List ℕ) (moments : Moments (SafeAt (head_of b)) (head_of b).regs r) (ok : Encodable r.head) (only : r.head ≡ head_with (head_of b) r.head.regs) where
    abbrev h : Head
    h = head_of b

    abbrev o : Left
    o = finished r 0 b j

    entries_are : entries_of o ≡ r.entries
    entries_are = take_at r.entries (drop (length r.entries) j) (length r.entries) refl

    again : (head_refusal o.buffer ≡ 0) × (head_of o.buffer ≡ r.head)
    again = decode_encode r.head ok b (passed b fit.read).length

    each : (k : ℕ) → Safe (moment b o k)
    each k = subst (λ (es : List ℕ). Safe (head_with h (replayed h.regs (take k es)))) (sym entries_are) (safe _ (moments.each k).fit)

    at_last : replayed h.regs (entries_of o) ≡ (head_of o.buffer).regs
    at_last = ap (replayed h.regs) entries_are ∙ (moments.last.registers ∙ ap (λ (g : Head). g.regs) (sym again.1))

    pub ran_tasks : booked (head_of o.buffer) ≡ ts
    ran_tasks = ap booked (again.1 ∙ only) ∙ holds

    pub ran_head : head_of o.buffer ≡ r.head
    ran_head = again.1

    left_fit : fits (head_of o.buffer) ≡ true
    left_fit = ap fits (again.1 ∙ only) ∙ (moments_now (SafeAt h) h.regs r moments).fit

    none : (t : Bool) → ◌≡◌ {A = ℕ} (cond t 0 0) 0
    none true = refl
    none false = refl

    pub ran : after c o.refusal ts ≡ ts → Asked c b o ts → Never r.stop → length r.entries ≤ 20 → r.taken ≤ 4096 → Fine b c o ts
    ran kept asked never most few =
        record {
          good = record {
            moments = each;
            last = at_last;
            returns = again.0;
            tasks = ran_tasks ∙ sym kept;
            asked = subst (Asked c b o) (sym kept) asked;
            never_37 = never.unfit;
            never_34 = never.unread;
          };
          next = record { bytes = written_bytes r.head ok b fit.bytes; read = again.0; fit = left_fit };
          word = record { refusal = never.small; value = none (eqb r.stop 0); entries = most; taken = few };
        }
