-- What a load check answers, as text.
use Rattle.std.specs.Prelude.{ℕ, List, ◌++◌, Result, Ok, Err}
use Rattle.load.specs.check.{load_check}
use Rattle.text.specs.Decimal.{number_field}

-- the refusal or 0, and the load
abbrev pub checked_text : Result ℕ ℕ → List ℕ
checked_text (Ok load) = number_field 0 ++ number_field load
checked_text (Err n) = number_field n ++ number_field 0

abbrev pub load_text : List ℕ → List ℕ
load_text b = checked_text (load_check b)
