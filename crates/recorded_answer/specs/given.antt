-- What a call on a head is given, as text: the first part of the line that records it.
use Rattle.std.specs.Prelude.{ℕ, List, ◌++◌}
use Rattle.text.specs.Hex.{byte_field, word_field}

-- what a call is given: its name, its argument, the buffer, the answers, the clocks before it
abbrev pub given_text : List ℕ → List ℕ → List ℕ → List ℕ → List ℕ → List ℕ
given_text name x b a former = name ++ (byte_field x ++ (byte_field b ++ (byte_field a ++ word_field former)))
