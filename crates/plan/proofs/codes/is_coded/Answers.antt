-- `plan::codes::is_coded` meets its contract: it leaves at the first part of `coded` that fails.
use Rattle.record.proofs.Bytes.{rest_whole}
use Rattle.plan.specs.codes.{coded}
use Rattle.plan.proofs.codes.is_coded.Goals as goal
use Rattle.plan.proofs.codes.is_coded.Goals.{then-within, else-within}

pub returns-then-dll_bytes_legal : goal.returns-then-dll_bytes_legal
unfolding coded
returns-then-dll_bytes_legal c = elim c.if-within.branch [
  | then-within w ↦ simp (← (rw rest_whole at c.within.ensures), w.if-within.true, ← w.dll_bytes_legal.ensures, ← w.value-is, c.if-dll_bytes_legal.true, c.dll_bytes_legal-then-dll_bytes_legal.ensures)
  | else-within w ↦ absurd cc
]

pub returns-else-dll_bytes_legal : goal.returns-else-dll_bytes_legal
unfolding coded
returns-else-dll_bytes_legal c = elim c.if-within.branch [
  | then-within w ↦ simp (← (rw rest_whole at c.within.ensures), w.if-within.true, ← w.dll_bytes_legal.ensures, ← w.value-is, c.if-dll_bytes_legal.false)
  | else-within w ↦ simp (← (rw rest_whole at c.within.ensures), w.value-is, w.if-within.false)
]
