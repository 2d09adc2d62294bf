-- `limits::usb_not_60` meets its contract.
use Rattle.limits.specs.Limits.{usb_not60}
use Rattle.limits.proofs.usb_not_60.Goals as goal

pub returns-then-usb : goal.returns-then-usb
unfolding usb_not60
returns-then-usb c = simp c.if-usb.true

pub returns-else-usb : goal.returns-else-usb
unfolding usb_not60
returns-else-usb c = simp c.if-usb.false
