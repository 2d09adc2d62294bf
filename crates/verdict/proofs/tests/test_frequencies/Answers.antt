-- `verdict::tests::test_frequencies` meets its contract: the first test that finds its fault gives the number.
use Prim.Native.Nat.{ℕ}
use mathlib.Core.Path.{◌≡◌, sym, ◌∙◌}
use mathlib.Core.Bool.{Bool, true, false}
use mathlib.Core.List.{List, [], ◌∷◌}
use Rattle.record.specs.Refusals.{refuse, first_of}
use Rattle.plan.specs.declared.Plan.{Plan}
use Rattle.plan.proofs.Legal.{legal_stages}
use Rattle.plan_clocks.specs.declared.Sources.{Sources}
use Rattle.plan_clocks.specs.declared.Target.{Target}
use Rattle.plan_clocks.specs.Clocks.{maybe_whole_hz, sources_of, target_of}
use Rattle.limits.specs.Limits.{usb_not60, dll1_core_too_slow, hclk_too_fast, pclk1_too_fast, pclk2_too_fast, dll2_too_fast}
use Rattle.verdict.specs.tests.{frequency_tests}
use Rattle.verdict.proofs.tests.test_frequencies.Goals.{After-dll2_too_fast, Else-dll1_core_too_slow, Else-hclk_too_fast, Else-pclk1_too_fast, Else-pclk2_too_fast, Else-usb_not_60}
use Rattle.verdict.proofs.tests.test_frequencies.Goals as goal

-- tests 9 to 14 on sources and a target
abbrev tests_on : Plan → Sources → Target → List ℕ
tests_on p s t =
    refuse 9 (usb_not60 p.usb s.usb.0) ∷
    refuse 10 (dll1_core_too_slow p.sys s.core.0) ∷
    refuse 11 (hclk_too_fast t.hclk.0) ∷
    refuse 12 (pclk1_too_fast t.hclk.0 t.pclk1.0) ∷
    refuse 13 (pclk2_too_fast t.hclk.0 t.pclk2.0) ∷
    refuse 14 (dll2_too_fast t.hclk.0 (maybe_whole_hz p.dll2)) ∷ []

-- on a plan's own they are the plan's
answers : (p : Plan) (s : Sources) (t : Target) → (s ≡ sources_of p) × (t ≡ target_of p) → (n : ℕ) → n ≡ first_of (tests_on p s t) → n ≡ first_of (frequency_tests p)
unfolding sources_of target_of
answers p s t e n h = rw (e.0, e.1) at h

-- a test that found no fault
passed_9 : (c : Else-usb_not_60) → usb_not60 c.args.p.usb c.args.sources.usb.0 ≡ false
passed_9 c =
    sym c.usb_not_60.ensures ∙ c.if-usb_not_60.false

passed_10 : (c : Else-dll1_core_too_slow) → dll1_core_too_slow c.args.p.sys c.args.sources.core.0 ≡ false
passed_10 c =
    sym c.dll1_core_too_slow.ensures ∙ c.if-dll1_core_too_slow.false

passed_11 : (c : Else-hclk_too_fast) → hclk_too_fast c.args.target.hclk.0 ≡ false
passed_11 c =
    sym c.hclk_too_fast.ensures ∙ c.if-hclk_too_fast.false

passed_12 : (c : Else-pclk1_too_fast) → pclk1_too_fast c.args.target.hclk.0 c.args.target.pclk1.0 ≡ false
passed_12 c =
    sym c.pclk1_too_fast.ensures ∙ c.if-pclk1_too_fast.false

passed_13 : (c : Else-pclk2_too_fast) → pclk2_too_fast c.args.target.hclk.0 c.args.target.pclk2.0 ≡ false
passed_13 c =
    sym c.pclk2_too_fast.ensures ∙ c.if-pclk2_too_fast.false

-- past the first five, the last decides
last_test : (c : Else-pclk2_too_fast) → (t : Bool) → dll2_too_fast c.args.target.hclk.0 (maybe_whole_hz c.args.p.dll2) ≡ t →
    first_of (refuse 14 t ∷ []) ≡ first_of (frequency_tests c.args.p)
unfolding first_of
last_test c t e =
    answers _ _ _ c.requires.1 _ (simp (passed_9 search, passed_10 search, passed_11 search, passed_12 search, passed_13 c, e))

tested_14 : (c : After-dll2_too_fast) → dll2_too_fast c.args.target.hclk.0 (maybe_whole_hz c.args.p.dll2) ≡ c.dll2_too_fast.result
tested_14 c =
    rw c.dll_whole_freq.ensures at (sym c.dll2_too_fast.ensures)

pub returns-then-usb_not_60 : goal.returns-then-usb_not_60
unfolding first_of
returns-then-usb_not_60 c = answers _ _ _ c.requires.1 _ (simp (← c.usb_not_60.ensures, c.if-usb_not_60.true))

pub returns-then-dll1_core_too_slow : goal.returns-then-dll1_core_too_slow
unfolding first_of
returns-then-dll1_core_too_slow c = answers _ _ _ c.requires.1 _ (simp (passed_9 search, ← c.dll1_core_too_slow.ensures, c.if-dll1_core_too_slow.true))

pub returns-then-hclk_too_fast : goal.returns-then-hclk_too_fast
unfolding first_of
returns-then-hclk_too_fast c =
    answers _ _ _ c.requires.1 _ (simp (passed_9 search, passed_10 search, ← c.hclk_too_fast.ensures, c.if-hclk_too_fast.true))

pub returns-then-pclk1_too_fast : goal.returns-then-pclk1_too_fast
unfolding first_of
returns-then-pclk1_too_fast c =
    answers _ _ _ c.requires.1 _ (simp (passed_9 search, passed_10 search, passed_11 search, ← c.pclk1_too_fast.ensures, c.if-pclk1_too_fast.true))

pub returns-then-pclk2_too_fast : goal.returns-then-pclk2_too_fast
unfolding first_of
returns-then-pclk2_too_fast c =
    answers _ _ _ c.requires.1 _ (simp (passed_9 search, passed_10 search, passed_11 search, passed_12 search, ← c.pclk2_too_fast.ensures, c.if-pclk2_too_fast.true))

pub dll_whole_freq-requires : goal.dll_whole_freq-requires
dll_whole_freq-requires c = (legal_stages _ c.requires.0).1

pub returns-then-dll2_too_fast : goal.returns-then-dll2_too_fast
unfolding first_of
returns-then-dll2_too_fast c =
    let else5 : Else-pclk2_too_fast = search in let tested : After-dll2_too_fast = search in last_test else5 true (tested_14 tested ∙ c.if-dll2_too_fast.true)

pub returns : goal.returns
unfolding first_of
returns c =
    let else5 : Else-pclk2_too_fast = search in let tested : After-dll2_too_fast = search in last_test else5 false (tested_14 tested ∙ c.if-dll2_too_fast.false)
