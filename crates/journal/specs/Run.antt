-- A call on a head as it runs, and the three things that it can do: store, delay, wait.
use Rattle.std.specs.Prelude.{ℕ, ◌+◌, ◌*◌, ◌/◌, ◌%◌, true, cond, List, [], ◌∷◌, ◌++◌, eqb, leb, ltb, length, drop, set, Option, Some, None}
use Rattle.time.specs.declared.Hertz.{Hertz}
use Rattle.head.specs.declared.Head.{Head}
use Rattle.head.specs.Head.{with_ready, stored}
use Rattle.clock_read.specs.Hpsys.{hclk_of}

-- the entries written so far, the head as it is now, the answers taken, and 0 or the refusal that ended the call
pub record Run : Type 0 where
  pub entries : List ℕ
  pub head : Head
  pub taken : ℕ
  pub stop : ℕ

-- what a part of a call does
abbrev pub Effect : Type 0
Effect = Run → Run

-- a call as it begins on a head
abbrev pub begin : Head → Run
begin h = record { entries = []; head = h; taken = 0; stop = 0 }

-- one effect, then another
infixl 20 ◌▸◌
abbrev pub ◌▸◌ : Effect → Effect → Effect
(f ▸ g) r = g (f r)

-- nothing
abbrev pub idle : Effect
idle r = r

-- a call that has ended does nothing more
unfoldable pub unless_ended : Effect → Effect
unless_ended f r = cond (eqb r.stop 0) (f r) r

-- the refusal `n` ends the call, with `taken` answers taken in all; stores made so far are kept
abbrev pub ended : ℕ → ℕ → Effect
ended n taken r = record { entries = r.entries; head = r.head; taken = taken; stop = n }

-- the refusal `n` ends the call where it is
unfoldable pub halted : ℕ → Effect
halted n = unless_ended (λ (r : Run). ended n r.taken r)

-- "An entry is number × 16,777,216 plus the 24-bit value"
abbrev pub entry : ℕ → ℕ → ℕ
entry number value = number * 16777216 + value

-- one entry more
abbrev pub with_entry : ℕ → Effect
with_entry e r = record { entries = r.entries ++ (e ∷ []); head = r.head; taken = r.taken; stop = r.stop }

-- another head
abbrev pub with_head : Head → Effect
with_head h r = record { entries = r.entries; head = h; taken = r.taken; stop = r.stop }

-- a store of `v` in register `n`: "one Rust `modify` or `write_value` is one store"
unfoldable pub store : ℕ → ℕ → Effect
store n v = unless_ended (λ (r : Run). with_entry (entry n v) (with_head (stored r.head n v) r))

-- the cycles of a delay, "Number 48 is a delay, its value the cycles of `cortex_m_blocking_delay_us`"; lib.rs rounds them down, document 02:
-- "The cycles are now rounded up."
abbrev pub cycles : ℕ → ℕ → ℕ
cycles hz us = (hz * us + 999999) / 1000000

-- "34 HCLK unreadable at a delay"
abbrev pub delayed : Option Hertz → ℕ → Effect
delayed (Some f) us r = with_entry (entry 48 (cycles f.0 us)) r
delayed None us r = ended 34 r.taken r

unfoldable pub delay : ℕ → Effect
delay us = unless_ended (λ (r : Run). delayed (hclk_of r.head) us r)

-- what polling finds in a list of answers: how many are taken up to the first that is ready and with it, or that none is ready;
-- "Answers are 16-bit words lent by the caller ..: 0 not ready, else ready"
pub data Poll : Type 0 where
  ready_after : ℕ → Poll
  never_ready : Poll

abbrev pub more : Poll → Poll
more (ready_after n) = ready_after (n + 1)
more never_ready = never_ready

unfoldable pub poll : List ℕ → Poll
poll [] = never_ready
poll (x ∷ a) = cond (eqb x 0) (more (poll a)) (ready_after 1)

-- "Number 49 is a wait that ended: a is its kind .., b and c the answers taken"; "36 answers run out in a wait", "one that 36 cuts short
-- has no entry", and all answers are taken then
abbrev pub waited : ℕ → List ℕ → Poll → Effect
waited kind a (ready_after n) r = record {
  entries = r.entries ++ (entry 49 (kind * 65536 + n) ∷ []);
  head = r.head;
  taken = r.taken + n;
  stop = r.stop;
}
waited kind a never_ready r = ended 36 (length a) r

-- a wait of some kind, with the answers `a` lent to the call
unfoldable pub wait : ℕ → List ℕ → Effect
wait kind a = unless_ended (λ (r : Run). waited kind a (poll (drop r.taken a)) r)

-- the HXT48 ready flag, and that of LPSYS, set to 1
abbrev pub with_hxt48 : Head → Head
with_hxt48 h = with_ready true h.hrc48_ready h.lpsys_hxt48_ready h

abbrev pub hxt48_on : Effect
hxt48_on r = with_head (with_hxt48 r.head) r

abbrev pub with_lpsys_hxt48 : Head → Head
with_lpsys_hxt48 h = with_ready h.hxt48_ready h.hrc48_ready true h

abbrev pub lpsys_hxt48_on : Effect
lpsys_hxt48_on r = with_head (with_lpsys_hxt48 r.head) r

-- "Kinds 1 and 2 take none when the ready flag is already 1, and set it."
unfoldable pub wait_hxt48 : List ℕ → Effect
wait_hxt48 a r =
    cond r.head.hxt48_ready (unless_ended (with_entry (entry 49 65536)) r) ((wait 1 a ▸ unless_ended hxt48_on) r)

unfoldable pub wait_lpsys_hxt48 : List ℕ → Effect
wait_lpsys_hxt48 a r =
    cond r.head.lpsys_hxt48_ready (unless_ended (with_entry (entry 49 131072)) r) ((wait 2 a ▸ unless_ended lpsys_hxt48_on) r)

-- kind 5: "a finished measurement takes two more, hxt_cnt and hrc_cnt", its count "a measurement's two included"; "36 answers run out in
-- a .. measurement"
abbrev pub measured : List ℕ → Poll → Effect
measured a (ready_after n) r = cond (leb (r.taken + n + 2) (length a)) (waited 5 a (ready_after (n + 2)) r) (ended 36 (length a) r)
measured a never_ready r = ended 36 (length a) r

unfoldable pub measure : List ℕ → Effect
measure a = unless_ended (λ (r : Run). measured a (poll (drop r.taken a)) r)

-- a store's entry put into the registers; a delay's and a wait's change nothing
unfoldable pub applied : List ℕ → ℕ → List ℕ
applied regs e = cond (ltb (e / 16777216) 35) (set regs (e / 16777216) (e % 16777216)) regs

-- "the head a call got with the stores of its first entries .. put in": the registers of a moment
unfoldable pub replayed : List ℕ → List ℕ → List ℕ
replayed regs [] = regs
replayed regs (e ∷ es) = replayed (applied regs e) es
