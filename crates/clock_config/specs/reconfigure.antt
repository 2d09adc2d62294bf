-- What `reconfigure_sysclk` of rcc/clock_config.rs leaves, on the bytes lent to it: `pb` a plan's, `b` a head's, `j` a journal, `a` answers.
use Rattle.std.specs.Prelude.{ℕ, cond, List, eqb}
use Rattle.plan.specs.bytes.{plan_of}
use Rattle.readings.specs.Clocks.{clocks_of}
use Rattle.call.specs.Call.{Left}
use Rattle.call.specs.with_plan.{plan_call, head_after}
use Rattle.core_clock.specs.switch.{to_plan}
use Rattle.call.specs.clocks.{with_audio_of}

-- `reconfigure_sysclk`
unfoldable pub reconfigure_call : List ℕ → List ℕ → List ℕ → List ℕ → Left
reconfigure_call pb b j a = plan_call (to_plan (plan_of pb) a) 0 pb b j a

-- it "takes the former `Clocks` beside the head and gives the new one with the audio PLL pair unaltered, or the former on a refusal"
unfoldable pub reconfigure_clocks : List ℕ → List ℕ → List ℕ → List ℕ → List ℕ → List ℕ
reconfigure_clocks former pb b j a =
    cond (eqb (reconfigure_call pb b j a).refusal 0) (with_audio_of former (clocks_of (head_after (to_plan (plan_of pb) a) b))) former
