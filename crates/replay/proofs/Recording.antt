-- A line that is put together from a call is the line that the definitions give.
use Prim.Native.Nat.{ℕ, ◌≤◌}
use mathlib.Core.Path.{◌≡◌}
use mathlib.Core.List.{List, ◌++◌}
use lib.ListN.{length, take, replicate}
use Rattle.call.specs.Call.{Left, Answer, Answers, entries_of}
use Rattle.recorded_answer.specs.Answer.{unused}
use Rattle.recorded_line.specs.calls.{Definition}
use Rattle.recorded_line.specs.numbers.{answers_in}
use Rattle.recorded_answer.specs.given.{given_text}
use Rattle.recorded_answer.specs.left.{left_text}
use Rattle.replay.specs.Line.{line_of}

-- an answer's entries lie in the journal where those of its definition do
pub within : {o : Left} {r : Answer} {b' j' : List ℕ} → Answers o r b' j' → o.entries ≤ length o.journal → entries_of r ≤ length j'
within x h = rw (x.entries, x.journal) h

-- what is put of a call on a copy of its buffer, given and left, is its line
pub line_is : (call : Definition) (name x b a former words copy b' j' clocks : List ℕ) (lent : ℕ) (r : Answer) → copy ≡ b → words ≡ answers_in a → lent ≡ call.lent_clocks →
    Answers (call.result_of x copy (replicate 128 unused) words) r b' j' → clocks ≡ call.clocks_after former x copy (replicate 128 unused) words →
    given_text name x b a (take lent former) ++ left_text r b' j' (take lent clocks) ≡ line_of call name x b a former
line_is call name x b a former words copy b' j' clocks lent r l w e h k =
    rw (k, e, h.refusal, h.value, h.entries, h.taken, h.buffer, h.journal, w, l)
