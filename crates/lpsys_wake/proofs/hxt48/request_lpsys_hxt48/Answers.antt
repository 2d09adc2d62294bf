-- `lpsys_wake::hxt48::request_lpsys_hxt48` meets its contract: the flag picks the case of `request_lpsys_hxt48`.
use Rattle.head.specs.declared.Head.{Head}
use Rattle.journal.proofs.Does.{◌then◌, does_nothing}
use Rattle.lpsys_wake.specs.hxt48.{request_lpsys_hxt48_unless, request_lpsys_hxt48}
use Rattle.lpsys_wake.proofs.Flag.{by_flag}
use Rattle.lpsys_wake.proofs.hxt48.request_lpsys_hxt48.Goals as goal

pub returns-then-m : goal.returns-then-m
unfolding request_lpsys_hxt48
returns-then-m c =
    by_flag (λ (h : Head). h.lpsys_hxt48_ready) (request_lpsys_hxt48_unless c.args.answers.now) c.if-m.true (does_nothing c.requires)

pub returns : goal.returns
unfolding request_lpsys_hxt48
returns c =
    let done = c.store.ensures then c.wait_lpsys_hxt48.ensures in
    by_flag (λ (h : Head). h.lpsys_hxt48_ready) (request_lpsys_hxt48_unless c.args.answers.now) c.if-m.false done
