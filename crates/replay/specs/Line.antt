-- The line that records a call on a head.
use Rattle.std.specs.Prelude.{ℕ, ◌≡◌, List, ◌++◌, take, replicate}
use Rattle.recorded_answer.specs.Answer.{unused}
use Rattle.recorded_line.specs.calls.{Definition}
use Rattle.recorded_line.specs.numbers.{answers_in}
use Rattle.recorded_answer.specs.given.{given_text}
use Rattle.recorded_answer.specs.left.{result_text}

-- the whole line, of a call on a journal of 128 words, with the clocks that it is lent before and after it
abbrev pub line_of : Definition → List ℕ → List ℕ → List ℕ → List ℕ → List ℕ → List ℕ
line_of call name x b a former =
    given_text name x b a (take call.lent_clocks former) ++
    result_text (call.result_of x b (replicate 128 unused) (answers_in a)) (take call.lent_clocks (call.clocks_after former x b (replicate 128 unused) (answers_in a)))

-- a line has the name, what the call is given, and what the call leaves of it by its definition
pub record Recorded (call : Definition) (name line : List ℕ) : Type 0 where
  pub argument : List ℕ
  pub buffer : List ℕ
  pub answers : List ℕ
  pub former : List ℕ
  pub line_is : line ≡ line_of call name argument buffer answers former
