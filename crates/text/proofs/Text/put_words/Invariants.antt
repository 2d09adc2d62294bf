-- `text::Text::put_words` meets its contract. The loop's invariant: the first words stand in the text.
use Rattle.std.proofs.Common.{take}
use Rattle.text.specs.Text.{Puts}
use Rattle.text.specs.Hex.{hex_of}
use Rattle.text.proofs.Text.put_words.Given as goal

abbrev pub invariant-loop-word : goal.invariant-loop-word
invariant-loop-word l =
    Puts (hex_of 8 (take l.word-index l.words)) l.initial.self.bytes l.initial.self.len l.self.bytes l.self.len
