-- `init_first::init_first` meets its contract: one step after the other, and the warning is that of the second.
use mathlib.Core.Path.{ap, ◌∙◌}
use Rattle.journal.specs.Machine.{State}
use Rattle.init_first.specs.warning.{warning}
use Rattle.init_first.specs.First.{init_first}
use Rattle.journal.proofs.Does.{◌then◌, beside}
use Rattle.init_first.proofs.init_first.Goals as goal

pub returns : goal.returns
unfolding init_first
returns c =
    let swallowed = c.swallow.ensures in
    let done = c.boot_stores.ensures then c.calibrate.ensures in
    record {
      does = done then beside swallowed.does_without_journal;
      warned = record { told = λ r j₀ at. swallowed.warning_value ∙ ap (λ (w : State). warning w.stop) (done.ran.does r j₀ at).machine };
    }
