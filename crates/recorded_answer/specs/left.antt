-- What a call on a head leaves, as text: the second part of the line that records it.
use Rattle.std.specs.Prelude.{ℕ, List, ◌++◌, take}
use Rattle.call.specs.Call.{Left, Answer, refusal_of, value_of, entries_of, taken_of}
use Rattle.text.specs.Decimal.{number_field}
use Rattle.text.specs.Hex.{byte_field, word_field}

-- refusal, value, counts of entries and of answers taken, the entries, the buffer, the clocks
abbrev pub fields : ℕ → ℕ → ℕ → ℕ → List ℕ → List ℕ → List ℕ → List ℕ
fields refusal value entries taken b j clocks =
    number_field refusal ++ (number_field value ++ (number_field entries ++ (number_field taken ++ (word_field (take entries j) ++ (byte_field b ++ word_field clocks)))))

abbrev pub left_text : Answer → List ℕ → List ℕ → List ℕ → List ℕ
left_text r = fields (refusal_of r) (value_of r) (entries_of r) (taken_of r)

abbrev pub result_text : Left → List ℕ → List ℕ
result_text o = fields o.refusal o.value o.entries o.taken o.buffer o.journal
