-- The line that records a reading.
use Rattle.std.specs.Prelude.{ℕ, ◌≡◌, List, ◌++◌, replicate}
use Rattle.verdict.specs.Verdict.{verdict, number_of}
use Rattle.head.specs.Record.{head_refusal, head_of}
use Rattle.readings.specs.Clocks.{clocks_of, lpsys_of, unless_refused}
use Rattle.text.specs.Decimal.{number_field}
use Rattle.text.specs.Hex.{byte_field, word_field}
use Rattle.recorded_answer.specs.loads.{load_text}
use Rattle.recorded_answer.specs.Answer.{unused}
use Rattle.replay.specs.declared.reading.Reading.{Reading}
use Rattle.replay.specs.declared.reading.Reading.TheVariants.{Plan, Clocks, Lpsys, Load}

-- the refusal or 0, and the 15 or six frequencies in a list that held a mark before the call
abbrev pub clocks_text : List ℕ → List ℕ
clocks_text b = number_field (head_refusal b) ++ word_field (unless_refused b (clocks_of (head_of b)) (replicate 15 unused))

abbrev pub lpsys_text : List ℕ → List ℕ
lpsys_text b = number_field (head_refusal b) ++ word_field (unless_refused b (lpsys_of (head_of b)) (replicate 6 unused))

-- what a reading of bytes answers; of a plan, 0 or the refusal
abbrev pub answer_text : Reading → List ℕ → List ℕ
answer_text Plan b = number_field (number_of (verdict b))
answer_text Clocks b = clocks_text b
answer_text Lpsys b = lpsys_text b
answer_text Load b = load_text b

-- a line has the name, some bytes, and what the reading answers of them by its definition
pub record Recorded (reading : Reading) (name line : List ℕ) : Type 0 where
  pub read : List ℕ
  pub line_is : line ≡ (name ++ byte_field read) ++ answer_text reading read
