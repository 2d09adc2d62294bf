-- `lpsys_request::modes::divider_for` meets its contract: the source gives 48 MHz, so the divider is at most 48.
use native.Mathlib.Omega.{arith}
use mathlib.Core.Path.{sym, ◌∙◌}
use Rattle.lpsys_request.proofs.Readings.{hz_read}
use Rattle.lpsys_request.proofs.modes.Divider.{source_48, divider_most}
use Rattle.lpsys_request.proofs.modes.divider_for.Goals as goal

pub overflow_cast-result : goal.overflow_cast-result
overflow_cast-result c =
    let source = sym (hz_read 48000000 c.get_lpsys_sysclk_freq.ensures c.unwrap_or-sysclk.ensures) ∙ source_48 c.args.h.now in
    rw source (omega (arith, divider_most c.args.freq.0 c.requires.0))
