-- What holds at every moment of a guarded change.
use Rattle.std.specs.Prelude.{ℕ, ◌≡◌, Bool, true, false, cond, List, [], ◌∷◌, eqb, length, Option, None, Some}
use Rattle.clock.specs.declared.Dll.{Dll}
use Rattle.plan.specs.declared.Plan.{Plan}
use Rattle.head.specs.declared.Head.{Head}
use Rattle.head.specs.Head.{with_registers}
use Rattle.fit.specs.Fit.{fits}
use Rattle.journal.specs.Run.{Poll, ready_after, never_ready, poll}

-- the head `h` with other registers: "A moment is the head a call got with the stores of its first entries .. put in"
abbrev pub head_with : Head → List ℕ → Head
head_with h regs = with_registers regs h

-- at a moment with these registers the head is fit: "HCLK, the clock the core runs on, reads and is at most the limit of the active supply
-- rails, LPSYS runs at no more than 24 MHz while on its D supply, and no flash clock is taken from a DLL that is off"
pub record SafeAt (h : Head) (regs : List ℕ) : Type 0 where
  pub words : length regs ≡ 35
  pub fit : fits (head_with h regs) ≡ true

-- "38 HXT48 not ready, or HRC48 planned and not ready": neither
pub record Ready (p : Plan) (h : Head) : Type 0 where
  pub hxt48 : h.hxt48_ready ≡ true
  pub hrc48 : p.sys ≡ 0 → h.hrc48_ready ≡ true

-- "one of the answers lent to it is ready": "0 not ready, else ready"
unfoldable pub one_ready : List ℕ → Bool
one_ready [] = false
one_ready (x ∷ a) = cond (eqb x 0) (one_ready a) true

-- two of them are: the first that is ready ends a wait, and a later one the next wait
unfoldable pub two_ready : List ℕ → Bool
two_ready [] = false
two_ready (x ∷ a) = cond (eqb x 0) (two_ready a) (one_ready a)

-- "answered done exactly when its plan has no DLL1 or one of the answers lent to it is ready; otherwise it is refused 36"
abbrev pub stop_for : Option Dll → List ℕ → ℕ
stop_for None a = 0
stop_for (Some d) a = cond (one_ready a) 0 36

-- a wake has two waits
abbrev pub stop_for_wake : List ℕ → ℕ
stop_for_wake a = cond (two_ready a) 0 36

-- "The result counts all answers taken": up to the first ready one and with it, or all
abbrev pub taken_of : List ℕ → Poll → ℕ
taken_of a (ready_after n) = n
taken_of a never_ready = length a

abbrev pub taken_for : Option Dll → List ℕ → ℕ
taken_for None a = 0
taken_for (Some d) a = taken_of a (poll a)
