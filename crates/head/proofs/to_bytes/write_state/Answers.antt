-- `head::to_bytes::write_state` meets its contract: the bytes put are those of `state_of`.
use mathlib.Core.Path.{◌≡◌, refl, ◌∙◌}
use mathlib.Core.Bool.{Bool, true, false}
use Rattle.std.specs.Int.{from_bool}
use Rattle.record.specs.Bytes.{bit}
use Rattle.head.specs.Record.{state_of}
use Rattle.head.proofs.to_bytes.write_state.Goals as goal

flag : (on : Bool) → from_bool on ≡ bit on
flag true = refl
flag false = refl

pub returns : goal.returns
unfolding state_of
returns c = c.put.ensures ∙ simp (c.from.ensures, c.from-2.ensures, c.from-3.ensures, flag)
