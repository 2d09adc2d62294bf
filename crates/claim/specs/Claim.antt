-- Demand 3: one claim about every list of guarded changes, bookings, releases and LPSYS requests. It is stated on `change_call`, `book`,
-- `release` and `lpsys_request`, the definitions that the contracts of these calls give.
use Rattle.std.specs.Prelude.{ℕ, ◌≤◌, ◌≡◌, true, cond, List, [], ◌∷◌, ◌++◌, eqb, take}
use Rattle.record.specs.Bytes.{Bytes}
use Rattle.plan.specs.bytes.{plan_of}
use Rattle.plan_clocks.specs.Clocks.{hclk_hz}
use Rattle.register.specs.Word.{byte_b, byte_c}
use Rattle.task.specs.declared.Task.{Task}
use Rattle.task.specs.Task.{InBytes}
use Rattle.head.specs.declared.Head.{Head}
use Rattle.head.specs.Head.{booked}
use Rattle.head.specs.Record.{head_refusal, head_of}
use Rattle.clock_read.specs.Hpsys.{reg, hertz, hclk_of}
use Rattle.journal.specs.Run.{replayed}
use Rattle.load.specs.Load.{load_of}
use Rattle.fit.specs.rail.{rail_limit}
use Rattle.fit.specs.Fit.{source_is_on, fits}
use Rattle.lpsys_request.specs.Safe.{lpsys_hz}
use Rattle.call.specs.Call.{Left}
use Rattle.head.specs.tasks.{without}
use Rattle.claim.specs.Moment.{head_with, stop_for}
use Rattle.guard.specs.Guard.{change_refusal, change_call}
use Rattle.lpsys_request.specs.frequency.{lpsys_request}
use Rattle.booking.specs.Booking.{book}
use Rattle.booking.specs.Release.{release}
use Rattle.register.specs.Numbers.{DLL1, DLL2, FLASH, LOW_POWER, LPSYS_SUPPLY}

-- "guarded changes, bookings, releases and LPSYS requests", with any arguments: a plan's bytes, a journal and answers; a task; an id;
-- whole MHz and a journal. "answers and journal are each call's own"
pub data Call : Type 0 where
  changing : List ℕ → List ℕ → List ℕ → Call
  booking : Task → Call
  releasing : ℕ → Call
  requesting : ℕ → List ℕ → Call

-- what a call leaves of a head's bytes
abbrev pub perform : Call → List ℕ → Left
perform (changing pb j a) b = change_call pb b j a
perform (booking t) b = book t b
perform (releasing id) b = release id b
perform (requesting f j) b = lpsys_request f b j

-- all that is taken of arguments: a task's numbers have the widths in which the call takes them
abbrev pub Typed : Call → Type 0
Typed (changing pb j a) = Unit {0}
Typed (booking t) = InBytes t
Typed (releasing id) = Unit {0}
Typed (requesting f j) = Unit {0}

abbrev pub AllTyped : List Call → Type 0
AllTyped [] = Unit {0}
AllTyped (c ∷ cs) = Typed c × AllTyped cs

-- "A moment is the head a call got with the stores of its first entries, none to all, put in"
abbrev pub entries_of : Left → List ℕ
entries_of o = take o.entries o.journal

abbrev pub moment : List ℕ → Left → ℕ → Head
moment b o k = head_with (head_of b) (replayed (head_of b).regs (take k (entries_of o)))

-- "At every moment, before the first store and after each one,"
pub record Safe (h : Head) : Type 0 where
  -- "HCLK .. reads and is at most the limit of the active supply rails": whatever register 10 holds
  pub hclk : ℕ
  pub reads : hclk_of h ≡ hertz hclk
  pub carried : hclk ≤ rail_limit h
  -- "HCLK, the clock the core runs on": where the low-power select, register 10, is 0; else a low-power clock, at most 100,000 Hz
  pub core : (slow : ℕ) → slow ≤ 100000 → cond (eqb (reg h LOW_POWER) 0) hclk slow ≤ rail_limit h
  -- "LPSYS runs at no more than 24 MHz while on its D supply": "28 LPSYS supply (0 D, 1 S)"
  pub lpsys : reg h LPSYS_SUPPLY ≡ 0 → lpsys_hz h.regs ≤ 24000000
  -- "and no flash clock is taken from a DLL that is off"
  pub first_flash : source_is_on (byte_b (reg h FLASH)) (reg h DLL1) (reg h DLL2) ≡ true
  pub second_flash : source_is_on (byte_c (reg h FLASH)) (reg h DLL1) (reg h DLL2) ≡ true

-- "Booked are the first head's tasks; a booking done adds its task, a release done takes its id out"; "A booked task goes last"
abbrev pub after : Call → ℕ → List Task → List Task
after (changing pb j a) answer ts = ts
after (booking t) answer ts = cond (eqb answer 0) (ts ++ (t ∷ [])) ts
after (releasing id) answer ts = cond (eqb answer 0) (without id ts) ts
after (requesting f j) answer ts = ts

-- "the booked load is at most HCLK": HCLK is `hz` and carries the tasks
abbrev pub Carries : Head → List Task → ℕ → Type 0
Carries h ts hz = (hclk_of h ≡ hertz hz) × (load_of ts ≤ hz)

-- what is asked of a call by its kind: on the bytes `b` it answered `o`, and then `ts` are booked
abbrev pub Asked : Call → List ℕ → Left → List Task → Type 0
Asked (changing pb j a) b o ts =
    -- "Every change that no test refuses before its first store is answered done exactly when its plan has no DLL1 or one of the answers
    -- lent to it is ready; otherwise it is refused 36."
    (change_refusal pb b j a ≡ 0 → o.refusal ≡ stop_for (plan_of pb).dll1 a)
    -- "Where the low-power select is 0, a change answered done leaves HCLK at its plan's and the booked load at most HCLK.": whatever it is
    × (o.refusal ≡ 0 → Carries (head_of o.buffer) ts (hclk_hz (plan_of pb)))
Asked (booking t) b o ts =
    -- "After every booking answered done, the booked load is at most HCLK."
    o.refusal ≡ 0 → (hz : ℕ) × Carries (head_of o.buffer) ts hz
Asked (releasing id) b o ts = Unit {0}
Asked (requesting f j) b o ts = Unit {0}

-- a call on the bytes `b`, on which `ts` are booked
pub record Good (b : List ℕ) (c : Call) (o : Left) (ts : List Task) : Type 0 where
  pub moments : (k : ℕ) → Safe (moment b o k)
  -- "the registers of its last moment are those it returns"
  pub last : replayed (head_of b).regs (entries_of o) ≡ (head_of o.buffer).regs
  pub returns : head_refusal o.buffer ≡ 0
  -- "after each call the head holds just these, in that order"
  pub tasks : booked (head_of o.buffer) ≡ after c o.refusal ts
  pub asked : Asked c b o (after c o.refusal ts)
  -- no call finds the head "37 not fit" or "34 HCLK unreadable": a test that refuses more than it should breaks the claim
  pub never_37 : o.refusal ≡ 37 → ⊥
  pub never_34 : o.refusal ≡ 34 → ⊥

-- "One claim for every list ..; each call gets the head as the last one returned it, and nobody else writes it."
abbrev pub Claim : List ℕ → List Task → List Call → Type 0
Claim b ts [] = Unit {0}
Claim b ts (c ∷ cs) = Good b c (perform c b) ts × Claim (perform c b).buffer (after c (perform c b).refusal ts) cs

-- "from a fit head": bytes that are a head's record, and the head is fit
pub record FitHead (b : List ℕ) : Type 0 where
  pub bytes : Bytes b
  pub read : head_refusal b ≡ 0
  pub fit : fits (head_of b) ≡ true

-- demand 3: "refused ones included, from a fit head, whatever the hardware answers"
abbrev pub Demand3 : Type 0
Demand3 = (b : List ℕ) → FitHead b → (cs : List Call) → AllTyped cs → Claim b (booked (head_of b)) cs
