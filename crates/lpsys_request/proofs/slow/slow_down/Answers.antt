-- `lpsys_request::slow::slow_down` meets its contract: a request of 24 MHz where LPSYS HCLK is above it.
use native.Mathlib.Omega.{arith}
use borrow.Author.Tests.{lt-ltb, le-ltb}
use Rattle.journal.proofs.Does.{by_head, does_nothing}
use Rattle.lpsys_request.specs.slow.{slow_down_on, slow_down}
use Rattle.lpsys_request.proofs.Readings.{hz_read}
use Rattle.lpsys_request.proofs.slow.slow_down.Goals as goal

pub returns-then-f-gt-LIMIT : goal.returns-then-f-gt-LIMIT
unfolding slow_down
returns-then-f-gt-LIMIT c =
    let hertz = hz_read 0 c.get_lpsys_hclk_freq.ensures c.unwrap_or-f.ensures in
    by_head slow_down_on (rw (hertz, lt-ltb 24000000 c.unwrap_or-f.result.0 (omega arith)) c.request.ensures)

pub returns-else-f-gt-LIMIT : goal.returns-else-f-gt-LIMIT
unfolding slow_down
returns-else-f-gt-LIMIT c =
    let hertz = hz_read 0 c.get_lpsys_hclk_freq.ensures c.unwrap_or-f.ensures in
    by_head slow_down_on (rw (hertz, le-ltb 24000000 c.unwrap_or-f.result.0 (omega arith)) (does_nothing c.requires))
