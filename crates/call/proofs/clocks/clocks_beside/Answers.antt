-- `call::clocks::clocks_beside` meets its contract: the test picks the case, and the last two, the audio pair, are the former ones.
use native.Mathlib.Omega.{arith}
use mathlib.Core.Path.{◌≡◌, sym, ◌∙◌}
use mathlib.Core.List.{append-nil}
use borrow.Author.Tests.{eq-eqb}
use lib.ListN.{drop, length-drop}
use lib.Seq.{take_all}
use Rattle.refusal.proofs.Numbers.{none_is_0}
use Rattle.readings.specs.Clocks.{clocks_of}
use Rattle.call.proofs.clocks.clocks_beside.Goals as goal

pub returns : goal.returns
unfolding clocks_of
returns c =
    let former = c.args.former in
    let read = c.numbers-clocks.ensures ∙ c.read_hpsys_clocks_from_hw.ensures in
    let pair : c.copy_from_slice.new.self ≡ drop 13 former = c.copy_from_slice.ensures.after ∙ take_all 2 (drop 13 former) (simp length-drop (omega arith)) in
    rw (eq-eqb _ _ (none_is_0 c.args.m.now.stop (sym c.if-is_some.ensures)), pair, read, append-nil (drop 13 former))
