use Rattle.std.proofs.Common.{rules}
use Rattle.lrs_http.proofs.SendLemmas.{written_failed, written_sent, written_part}
use Rattle.lrs_http.proofs.response.send.Goals as goal

pub returns-then-failed : goal.returns-then-failed
returns-then-failed g c text start w = written_failed text c.args.waiting.now start _ (rw c.if-failed.true at w)

pub returns-in-Ok : goal.returns-in-Ok
returns-in-Ok g c text start w =
    written_sent text c.args.waiting.now start _ _ (rw c.if-failed.false at w) c.write_all.ensures.left_kept c.write_all.ensures.stream_kept c.write_all.ensures.name_kept c.in-Ok.ensures.whole (search rules)

pub returns-in-Err : goal.returns-in-Err
returns-in-Err g c text start w =
    written_part text c.args.waiting.now start _ _ (rw c.if-failed.false at w) c.write_all.ensures.left_kept c.write_all.ensures.stream_kept c.write_all.ensures.name_kept c.in-Err.ensures.part (search rules) c.write_all.ensures.cause.later
