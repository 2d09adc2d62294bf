-- `journal::Machine::write` meets its contract: one entry, unless the call has ended.
use native.Mathlib.Omega.{arith}
use mathlib.Core.Path.{refl}
use Rattle.journal.proofs.Reached.{ran_wrote}
use Rattle.journal.proofs.Does.{does_ended}
use borrow.Author.Rules.{rules}
use Rattle.journal.proofs.Machine.write.Goals as goal

pub returns-then-is_none : goal.returns-then-is_none
returns-then-is_none c =
    record {
      ran = ran_wrote c.args.self.now c.args.journal.now _ c.if-is_none.ensures (search rules);
      room = omega arith;
      encodable = c.requires.encodable;
      answers = refl;
    }

pub returns-else-is_none : goal.returns-else-is_none
returns-else-is_none c = does_ended _ c.requires c.if-is_none.ensures
