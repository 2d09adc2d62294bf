-- `plan_clocks::sources_of` meets its contract: each field is what its function ensures.
use Rattle.time.proofs.Equal.{hertz_is}
use Rattle.plan_clocks.specs.Clocks.{sources_of}
use Rattle.plan_clocks.proofs.sources_of.Goals as goal

pub returns : goal.returns
unfolding sources_of
returns c = simp (hertz_is c.sysclk-core.ensures, hertz_is c.usb_source.ensures)
