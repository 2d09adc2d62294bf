-- `plan_clocks::usb_source` meets its contract: the source picks the case of `usb_hz`.
use borrow.Author.Tests.{eq-eqb, ne_eqb}
use Rattle.plan_clocks.specs.Clocks.{usb_hz}
use Rattle.plan_clocks.proofs.usb_source.Goals as goal

pub returns-then-p-eq-USB_DLL2 : goal.returns-then-p-eq-USB_DLL2
unfolding usb_hz
returns-then-p-eq-USB_DLL2 c = simp (eq-eqb _ _ c.if-p-eq-USB_DLL2.true, c.dll_freq.ensures)

pub returns-else-p-eq-USB_DLL2 : goal.returns-else-p-eq-USB_DLL2
unfolding usb_hz
returns-else-p-eq-USB_DLL2 c = simp (ne_eqb _ _ c.if-p-eq-USB_DLL2.false, c.requires.1)
