-- The tests of the guarded change on a plan and a head.
use Rattle.std.specs.Prelude.{ℕ, Bool, not, ◌&&◌, ◌||◌, List, [], ◌∷◌, eqb, ltb}
use Rattle.record.specs.Refusals.{refuse}
use Rattle.plan.specs.declared.Plan.{Plan}
use Rattle.plan_clocks.specs.Clocks.{hclk_hz}
use Rattle.head.specs.declared.Head.{Head}
use Rattle.head.specs.Head.{booked}
use Rattle.load.specs.Load.{load_of}
use Rattle.fit.specs.Fit.{fits}

-- "HXT48 not ready, or HRC48 planned and not ready"; core select "0 HRC48"
abbrev pub unready : Plan → Head → Bool
unready p h = not h.hxt48_ready || (eqb p.sys 0 && not h.hrc48_ready)

-- "load above target HCLK": the load of the booked tasks
abbrev pub overloaded : ℕ → Head → Bool
overloaded hz h = ltb hz (load_of (booked h))

-- "Guarded change, in order, after the plan's: 37 not fit; 38 HXT48 not ready, or HRC48 planned and not ready; 39 load above target
-- HCLK."
abbrev pub guard_tests : Plan → Head → List ℕ
guard_tests p h =
    refuse 37 (not (fits h)) ∷
    refuse 38 (unready p h) ∷
    refuse 39 (overloaded (hclk_hz p) h) ∷ []
