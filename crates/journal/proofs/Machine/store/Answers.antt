-- `journal::Machine::store` meets its contract: one entry, and the value in the register, unless the call has ended.
use native.Mathlib.Omega.{arith}
use mathlib.Core.Path.{refl}
use Rattle.register.proofs.Fits.{fits_word}
use Rattle.head.proofs.Stores.{store_encodable}
use Rattle.journal.specs.Run.{store}
use Rattle.journal.proofs.Does.{does_ended}
use Rattle.journal.proofs.Stores.{ran_store}
use borrow.Author.Rules.{rules}
use Rattle.journal.proofs.Machine.store.Goals as goal

pub overflow_add-journal : goal.overflow_add-journal
overflow_add-journal c = omega (arith, fits_word _ _ c.requires.number_bound.1)

pub returns-then-is_none : goal.returns-then-is_none
returns-then-is_none c =
    record {
      ran = ran_store c.args.self.now c.args.journal.now c.args.number c.args.value c.if-is_none.ensures (search rules);
      room = omega arith;
      encodable = store_encodable _ _ _ c.requires.lent.encodable c.requires.number_bound.1;
      answers = refl;
    }

pub returns-else-is_none : goal.returns-else-is_none
unfolding store
returns-else-is_none c = does_ended _ c.requires.lent c.if-is_none.ensures
