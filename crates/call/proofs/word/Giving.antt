-- From a call's answer to the word that C gets.
use Prim.Native.Nat.{ℕ}
use mathlib.Core.Path.{◌≡◌, ◌∙◌}
use mathlib.Core.List.{List}
use Rattle.call.specs.Call.{Left, Answer, refusal_of, value_of, entries_of, taken_of, Answers}
use Rattle.call.specs.word.{packed, Gives}

pub gives : {o : Left} {a : Answer} {b' j' : List ℕ} {word : ℕ} → Answers o a b' j' → word ≡ packed (refusal_of a) (value_of a) (entries_of a) (taken_of a) → Gives o word b' j'
gives x e = record { answer = e ∙ rw (x.refusal, x.value, x.entries, x.taken); buffer = x.buffer; journal = x.journal }
