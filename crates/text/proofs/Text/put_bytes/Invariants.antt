-- `text::Text::put_bytes` meets its contract. The loop's invariant: the first bytes stand in the text.
use Rattle.std.proofs.Common.{take}
use Rattle.text.specs.Text.{Puts}
use Rattle.text.specs.Hex.{hex_of}
use Rattle.text.proofs.Text.put_bytes.Given as goal

abbrev pub invariant-loop-byte : goal.invariant-loop-byte
invariant-loop-byte l =
    Puts (hex_of 2 (take l.byte-index l.bytes)) l.initial.self.bytes l.initial.self.len l.self.bytes l.self.len
