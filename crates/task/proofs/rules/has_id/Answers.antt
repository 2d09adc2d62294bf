-- `task::rules::has_id` meets its contract: a look-up hits just where the id is in use.
use mathlib.Core.Path.{sym, ap, ◌∙◌}
use Rattle.task.proofs.look_up.Laws.{is_hit, hit_in_use}
use Rattle.task.proofs.rules.has_id.Goals as goal

pub returns-in-Hit : goal.returns-in-Hit
returns-in-Hit c = sym (ap is_hit c.in-Hit.is) ∙ (ap is_hit c.look_up.ensures ∙ hit_in_use _ _)

pub returns-in_default : goal.returns-in_default
returns-in_default c = sym (ap is_hit c.in_default.is) ∙ (ap is_hit c.look_up.ensures ∙ hit_in_use _ _)
