-- `verdict::tests::test` meets its contract: the first test that finds its fault gives the number.
use mathlib.Core.Path.{◌≡◌, sym, ◌∙◌}
use mathlib.Core.Bool.{false}
use Rattle.record.specs.Refusals.{first_of}
use Rattle.limits.specs.Limits.{core_on_absent_dll1, core_on_dbl96, flash_on_absent_dll, usb_on_absent_dll2}
use Rattle.verdict.specs.tests.{plan_refusal}
use Rattle.verdict.proofs.tests.test.Goals.{Else-core_on_absent_dll1, Else-core_on_dbl96, Else-flash_on_absent_dll, Else-flash_on_absent_dll-2, Else-usb_on_absent_dll2}
use Rattle.verdict.proofs.tests.test.Goals as goal

-- a test that found no fault
passed_4 : (c : Else-core_on_absent_dll1) → core_on_absent_dll1 c.args.p ≡ false
passed_4 c =
    sym c.core_on_absent_dll1.ensures ∙ c.if-core_on_absent_dll1.false

passed_5 : (c : Else-core_on_dbl96) → core_on_dbl96 c.args.p ≡ false
passed_5 c =
    sym c.core_on_dbl96.ensures ∙ c.if-core_on_dbl96.false

passed_6 : (c : Else-flash_on_absent_dll) → flash_on_absent_dll c.args.p.mpi1sel c.args.p ≡ false
passed_6 c =
    sym c.flash_on_absent_dll.ensures ∙ c.if-flash_on_absent_dll.false

passed_7 : (c : Else-flash_on_absent_dll-2) → flash_on_absent_dll c.args.p.mpi2sel c.args.p ≡ false
passed_7 c =
    sym c.flash_on_absent_dll-2.ensures ∙ c.if-flash_on_absent_dll-2.false

passed_8 : (c : Else-usb_on_absent_dll2) → usb_on_absent_dll2 c.args.p ≡ false
passed_8 c =
    sym c.usb_on_absent_dll2.ensures ∙ c.if-usb_on_absent_dll2.false

pub returns-then-core_on_absent_dll1 : goal.returns-then-core_on_absent_dll1
unfolding plan_refusal first_of
returns-then-core_on_absent_dll1 c = simp (c.requires.0, ← c.core_on_absent_dll1.ensures, c.if-core_on_absent_dll1.true)

pub returns-then-core_on_dbl96 : goal.returns-then-core_on_dbl96
unfolding plan_refusal first_of
returns-then-core_on_dbl96 c = simp (c.requires.0, passed_4 search, ← c.core_on_dbl96.ensures, c.if-core_on_dbl96.true)

pub returns-then-flash_on_absent_dll : goal.returns-then-flash_on_absent_dll
unfolding plan_refusal first_of
returns-then-flash_on_absent_dll c = simp (c.requires.0, passed_4 search, passed_5 search, ← c.flash_on_absent_dll.ensures, c.if-flash_on_absent_dll.true)

pub returns-then-flash_on_absent_dll-2 : goal.returns-then-flash_on_absent_dll-2
unfolding plan_refusal first_of
returns-then-flash_on_absent_dll-2 c =
    simp (c.requires.0, passed_4 search, passed_5 search, passed_6 search, ← c.flash_on_absent_dll-2.ensures, c.if-flash_on_absent_dll-2.true)

pub returns-then-usb_on_absent_dll2 : goal.returns-then-usb_on_absent_dll2
unfolding plan_refusal first_of
returns-then-usb_on_absent_dll2 c =
    simp (c.requires.0, passed_4 search, passed_5 search, passed_6 search, passed_7 search, ← c.usb_on_absent_dll2.ensures, c.if-usb_on_absent_dll2.true)

pub returns : goal.returns
unfolding plan_refusal first_of
returns c =
    simp (c.requires.0, passed_4 search, passed_5 search, passed_6 search, passed_7 search, passed_8 search, c.test_frequencies.ensures)
