-- LPSYS HCLK of a head's bytes.
use Rattle.std.specs.Prelude.{ℕ, cond, List, eqb}
use Rattle.time.specs.MaybeHertz.{maybe}
use Rattle.head.specs.Record.{head_refusal, head_of}
use Rattle.clock_read.specs.lpsys.{lpsys_hclk_of}

-- "LPSYS HCLK in Hz", 0 where none reads or the head is refused
unfoldable pub hclk_in : List ℕ → ℕ
hclk_in b = cond (eqb (head_refusal b) 0) (maybe (lpsys_hclk_of (head_of b))) 0
