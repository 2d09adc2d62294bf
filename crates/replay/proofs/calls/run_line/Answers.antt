-- `replay::calls::run_line` meets its contract: the line is that of the call, given and left.
use Rattle.replay.proofs.Recording.{within, line_is}
use Rattle.std.proofs.lemmas.Result.{IfOk-equal}
use Rattle.replay.proofs.calls.run_line.Goals as goal

pub compare-requires : goal.compare-requires
compare-requires g c =
    let args = c.args in
    within c.run-answer.ensures.answers (g.met.C.HeadCall.within args.call args.argument.now _ _ args.words.now)

pub returns : goal.returns
returns g c =
    let args = c.args in
    let run = c.run-answer in
    let is = line_is (g.C.HeadCall.means args.call) args.name.now args.argument.now args.buffer.now args.answers.now args.former args.words.now _ _ _ _ _ run.result in
    let line = is c.requires.0 c.requires.1 c.lent_clocks-lent.ensures.lent run.ensures.answers run.ensures.clocks_after in
    IfOk-equal _ _ _ _ c.compare.ensures line
