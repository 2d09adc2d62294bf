-- `limits::sources::usb_on_absent_dll2` meets its contract.
use borrow.Author.Tests.{eq-eqb}
use borrow.Author.Rules.{rules}
use Rattle.limits.specs.Limits.{usb_on_absent_dll2}
use Rattle.limits.proofs.Absent.{none_is}
use Rattle.limits.proofs.sources.usb_on_absent_dll2.Goals as goal

pub returns-then-p-eq-USB_DLL2 : goal.returns-then-p-eq-USB_DLL2
unfolding usb_on_absent_dll2
returns-then-p-eq-USB_DLL2 c = simp (c.if-p-eq-USB_DLL2.true.0, eq-eqb _ _ c.if-p-eq-USB_DLL2.true.1) (none_is _ _ c.is_none.ensures)

pub returns-else-p-eq-USB_DLL2 : goal.returns-else-p-eq-USB_DLL2
unfolding usb_on_absent_dll2
returns-else-p-eq-USB_DLL2 c = search rules
