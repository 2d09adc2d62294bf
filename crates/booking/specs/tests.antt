-- The tests of a booking on a task and a head.
use Rattle.std.specs.Prelude.{ℕ, not, List, [], ◌∷◌, ◌++◌, eqb, ltb, Option, Some, None}
use Rattle.time.specs.declared.Hertz.{Hertz}
use Rattle.record.specs.Refusals.{refuse}
use Rattle.task.specs.declared.Task.{Task}
use Rattle.task.specs.Task.{task_ok, has_id}
use Rattle.head.specs.declared.Head.{Head}
use Rattle.head.specs.Head.{booked}
use Rattle.clock_read.specs.Hpsys.{hclk_of}
use Rattle.load.specs.Load.{load_of}

-- "34 HCLK unreadable at .. a booking", "39 for the load with the new task and the present HCLK"
abbrev pub carried : Option Hertz → ℕ → ℕ
carried (Some f) load = refuse 39 (ltb f.0 load)
carried None load = 34

-- "Booking, in order: 16, 40 id in use, 41 sixteen tasks, 34, 39"
abbrev pub book_tests : Task → Head → List ℕ
book_tests t h =
    refuse 16 (not (task_ok t)) ∷
    refuse 40 (has_id t.id (booked h)) ∷
    refuse 41 (eqb h.count 16) ∷
    carried (hclk_of h) (load_of (booked h ++ (t ∷ []))) ∷ []
