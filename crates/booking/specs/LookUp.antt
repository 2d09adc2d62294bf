-- A look-up on a head's bytes.
use Rattle.std.specs.Prelude.{ℕ, cond, List, [], eqb}
use Rattle.task.specs.look_up.{look_up, value_of}
use Rattle.head.specs.Head.{booked}
use Rattle.head.specs.Record.{head_refusal, head_of}
use Rattle.call.specs.Call.{Left}

-- the head's 1 to 3, then what the look-up among its booked tasks answers; the head is only read
unfoldable pub look_up_call : ℕ → List ℕ → Left
look_up_call id b = record {
  refusal = head_refusal b;
  value = cond (eqb (head_refusal b) 0) (value_of (look_up id (booked (head_of b)))) 0;
  entries = 0;
  taken = 0;
  buffer = b;
  journal = [];
}
