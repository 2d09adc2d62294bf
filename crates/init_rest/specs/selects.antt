-- USB and the other selects, as `init` of rcc/clock_config.rs sets them.
use Rattle.std.specs.Prelude.{cond}
use Rattle.plan.specs.declared.Plan.{Plan}
use Rattle.plan_clocks.specs.Clocks.{usb_divider}
use Rattle.journal.specs.Run.{Effect, idle, ◌▸◌, store}
use Rattle.register.specs.Numbers.{LOW_POWER, PERI, TICK, USB_DIVIDER, USB_SOURCE}

-- the USB divider and source, of a plan with usb
unfoldable pub planned_usb : Plan → Effect
planned_usb p = cond p.usb (store USB_DIVIDER (usb_divider p) ▸ store USB_SOURCE p.usbsel) idle

-- the peripheral clock, the low-power clock and the tick; "9 tick, always 0 (ClkRtc)"
unfoldable pub planned_muxes : Plan → Effect
planned_muxes p = store PERI p.perisel ▸ store LOW_POWER p.wdtsel ▸ store TICK 0
