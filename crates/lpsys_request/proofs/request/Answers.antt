-- `lpsys_request::request` meets its contract: the transition's halves round the divider.
use Rattle.journal.proofs.Does.{◌then◌, by_head}
use Rattle.lpsys_request.specs.Request.{request_on, request}
use Rattle.lpsys_request.proofs.request.Goals as goal

pub returns : goal.returns
unfolding request
returns c =
    let done = c.config_lpsys_dvfs_first.ensures then c.set_hdiv.ensures then c.config_lpsys_dvfs_second.ensures in
    by_head (request_on c.args.freq.0) (simp (c.present_mode-current.ensures, c.request_mode-target.ensures, c.divider_for-hdiv.ensures) at done)
