-- `load::check::load_check` meets its contract: a list that passes the tests gives its load.
use Rattle.std.proofs.Common.{arith}
use Rattle.record.specs.Refusals.{first_of}
use Rattle.load.specs.check.{listed_tasks, check_refusal, load_check}
use Rattle.load.proofs.check.Cases.{first_listed}
use Rattle.load.proofs.check.load_check.Goals as goal

pub returns : goal.returns
unfolding load_check check_refusal first_of listed_tasks
returns c = grind (arith, first_listed)
