-- The core clock set as a plan has it, between the halves of a supply transition: rcc/clock_config.rs.
use Rattle.std.specs.Prelude.{ℕ, List, Option, Some, None}
use Rattle.time.specs.Frequency.{megahertz, hz_or}
use Rattle.plan.specs.declared.Plan.{Plan}
use Rattle.plan_clocks.specs.Clocks.{hclk_hz}
use Rattle.clock_read.specs.Hpsys.{hclk_of}
use Rattle.journal.specs.Run.{Effect, halted, ◌▸◌}
use Rattle.dvfs.specs.declared.hpsys.HpsysDvfsMode.{HpsysDvfsMode}
use Rattle.dvfs.specs.Hpsys.{mode_of}
use Rattle.dvfs_hpsys.specs.HpsysModes.{hpsys_first, hpsys_second}
use Rattle.core_clock.specs.CoreClock.{switch_away, planned_dll1, dividers_and_sysclk}

-- the closure that `init` and `reconfigure_sysclk` pass to `config_hcpu_dvfs`
unfoldable pub config_clock : Plan → List ℕ → Effect
config_clock p a = switch_away ▸ planned_dll1 p.dll1 a ▸ dividers_and_sysclk p

-- `config_hcpu_dvfs` with that closure: "35 present HCLK above 240 MHz at a supply transition"; no accepted plan's HCLK is
abbrev pub transition : Option HpsysDvfsMode → Option HpsysDvfsMode → Plan → List ℕ → Effect
transition (Some current) (Some target) p a = hpsys_first current target ▸ config_clock p a ▸ hpsys_second current target
transition (Some current) None p a = halted 35
transition None target p a = halted 35

-- from the present HCLK, 48 MHz where none reads, to the plan's
unfoldable pub to_plan : Plan → List ℕ → Effect
to_plan p a r = transition (mode_of (megahertz (hz_or 48000000 (hclk_of r.head)))) (mode_of (megahertz (hclk_hz p))) p a r
