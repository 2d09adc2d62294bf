-- `clock::Dll::freq_hz` meets its contract: each arm is a case of `dll_hz`.
use Rattle.clock.specs.Clock.{dll_hz}
use Rattle.clock.proofs.Dll.freq_hz.Goals as goal

pub returns-then-self : goal.returns-then-self
unfolding dll_hz
returns-then-self c = simp (c.if-self.true, c.from.ensures)

pub returns-else-self : goal.returns-else-self
unfolding dll_hz
returns-else-self c = simp (c.if-self.false, c.from.ensures)
