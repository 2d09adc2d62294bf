-- `init_first::warning::swallow` meets its contract: a stop of 31 or 33 is told, and no longer one.
use native.Mathlib.Omega.{arith}
use mathlib.Core.Path.{◌≡◌, refl, ap}
use mathlib.Core.Bool.{cond}
use Rattle.std.specs.Prelude.{Option}
use Rattle.std.proofs.lemmas.Grind.{common_steps}
use Rattle.refusal.specs.declared.Refusal.{Refusal}
use Rattle.refusal.specs.Refusal.{number_or_zero}
use Rattle.head.specs.Encodable.{Encodable}
use Rattle.journal.specs.declared.Machine.{Machine}
use Rattle.journal.specs.Machine.{State, state_of, DoesWithoutJournal}
use Rattle.init_first.specs.warning.{is_warning, swallowed}
use Rattle.init_first.proofs.warning.swallow.Goals as goal

abbrev forgiven : State → State
forgiven w = record { head = w.head; at = w.at; taken = w.taken; stop = cond (is_warning w.stop) 0 w.stop }

-- a machine and the one whose warning is swallowed
forgives : (m : Machine) (s : Option Refusal) → Encodable m.head → number_or_zero s ≡ (forgiven (state_of m)).stop →
    DoesWithoutJournal swallowed m (record m { stop = s })
unfolding swallowed
forgives m s ok e = record {
  ran = λ j. record { does = λ r j₀ at. record { machine = rw e (ap forgiven at.machine); journal = at.journal } };
  room = omega arith;
  encodable = ok;
  answers = refl;
}

pub returns-in-Some-Hxt48NotReady-clause-does_without_journal : goal.returns-in-Some-Hxt48NotReady-clause-does_without_journal
returns-in-Some-Hxt48NotReady-clause-does_without_journal c = forgives c.args.m.now c.take.new.self c.requires (grind (arith, common_steps))

pub returns-in_default-clause-does_without_journal : goal.returns-in_default-clause-does_without_journal
returns-in_default-clause-does_without_journal c = forgives c.args.m.now c.args.m.now.stop c.requires (grind (arith, common_steps))

pub returns-in_default-2-clause-does_without_journal : goal.returns-in_default-2-clause-does_without_journal
returns-in_default-2-clause-does_without_journal c = forgives c.args.m.now c.args.m.now.stop c.requires (grind (arith, common_steps))
