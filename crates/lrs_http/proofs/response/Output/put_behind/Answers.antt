use Rattle.std.proofs.Common.{◌++◌, [], sym}
use Rattle.lrs_http.proofs.SendLemmas.{written_more, written_only, written_waits}
use Rattle.lrs_http.proofs.response.Output.put_behind.Goals as goal

pub returns : goal.returns
returns g c text start w =
    let empty = written_waits _ _ [] _ _ _ c.flush.ensures.empty (written_only _ _ _ _ _ (c.flush.ensures.sent text start w)) in
    written_waits (text ++ c.args.piece.now) [] c.flush.new.self.gathered.items c.send-self.result start _ (sym c.flush.ensures.empty) (c.send-self.ensures (text ++ c.args.piece.now) start (written_more text [] c.args.piece.now c.flush.new.self.failed start _ empty))
