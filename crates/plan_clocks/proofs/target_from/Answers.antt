-- `plan_clocks::target_from` meets its contract: each field is what its function ensures.
use Rattle.time.proofs.Equal.{hertz_is}
use Rattle.plan_clocks.specs.Clocks.{sources_of, target_of, hclk_hz, pclk1_hz, pclk2_hz, usb_divider}
use Rattle.plan_clocks.proofs.target_from.Goals as goal

pub returns : goal.returns
unfolding sources_of target_of hclk_hz pclk1_hz pclk2_hz usb_divider
returns c =
    simp (hertz_is c.prescale.ensures, hertz_is c.prescale-2.ensures, hertz_is c.divide-hclk.ensures, c.usb_divider.ensures, c.requires)
