use Rattle.std.proofs.Common.{sym}
use Rattle.lrs_http.proofs.SendLemmas.{written_still, written_waits}
use Rattle.lrs_http.proofs.response.Output.flush.Goals as goal

pub returns-clause-sent : goal.returns-clause-sent
returns-clause-sent g c text start w =
    let waits = written_waits text c.args.self.now.gathered.items c.as_slice.result.now c.args.self.now.failed start _ (sym c.as_slice.ensures.value) w in
    written_waits _ _ _ _ _ _ (sym c.clear.ensures) (written_still _ _ _ _ _ (c.send-self.ensures text start waits))
