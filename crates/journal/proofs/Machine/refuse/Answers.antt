-- `journal::Machine::refuse` meets its contract: the stop alone changes.
use native.Mathlib.Omega.{arith}
use mathlib.Core.Path.{refl, ap}
use Rattle.refusal.specs.Refusal.{number}
use Rattle.journal.specs.Run.{Run, Effect, ended, halted}
use Rattle.journal.specs.Machine.{State}
use Rattle.journal.proofs.Reached.{ran_quiet}
use Rattle.journal.proofs.Does.{alone_ended}
use Rattle.journal.proofs.Machine.refuse.Goals as goal

pub returns-then-is_none : goal.returns-then-is_none
unfolding halted
returns-then-is_none c =
    let n = number c.args.refusal in
    let stopped : Effect = λ (r : Run). ended n r.taken r in
    record {
      ran = λ j. ran_quiet stopped c.args.self.now _ j c.if-is_none.ensures (λ r q. (ap (λ (w : State). record { head = w.head; at = w.at; taken = w.taken; stop = n }) q, refl));
      room = omega arith;
      encodable = c.requires;
      answers = refl;
    }

pub returns-else-is_none : goal.returns-else-is_none
unfolding halted
returns-else-is_none c = alone_ended _ c.requires c.if-is_none.ensures
