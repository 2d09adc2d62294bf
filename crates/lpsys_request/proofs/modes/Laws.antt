-- The mode of a request, by its frequency.
use Prim.Native.Nat.{ℕ, ◌≤◌, ◌<◌}
use mathlib.Core.Path.{◌≡◌}
use borrow.Author.Tests.{le-leb, lt-leb}
use Rattle.dvfs.specs.declared.lpsys.LpsysDvfsMode.TheVariants.{D, S}
use Rattle.dvfs.specs.lpsys.{lpsys_mode_of}
use Rattle.lpsys_request.specs.modes.{request_mode}

pub request_d : (f : ℕ) → f ≤ 24 → request_mode f ≡ D
unfolding request_mode lpsys_mode_of
request_d f h = rw (le-leb f 24 h)

pub request_s : (f : ℕ) → 24 < f → f ≤ 48 → request_mode f ≡ S
unfolding request_mode lpsys_mode_of
request_s f h k = rw (lt-leb f 24 h, le-leb f 48 k)
