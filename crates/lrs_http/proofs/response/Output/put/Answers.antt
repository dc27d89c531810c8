use Rattle.std.proofs.Common.{◌++◌, sym, ap}
use Rattle.lrs_http.proofs.SendLemmas.{written_more, written_waits}
use Rattle.lrs_http.proofs.response.Output.put.Goals as goal

pub returns-in-Ok : goal.returns-in-Ok
returns-in-Ok g c text start w =
    written_waits (text ++ c.args.piece.now) (c.args.self.now.gathered.items ++ c.args.piece.now) c.try_extend_from_slice.new.self.items c.args.self.now.failed start _ (sym c.in-Ok.ensures.ok)
    (written_more text c.args.self.now.gathered.items c.args.piece.now c.args.self.now.failed start _ w)

pub returns-in-Err : goal.returns-in-Err
returns-in-Err g c text start w =
    c.put_behind.ensures text start (written_waits text c.args.self.now.gathered.items c.try_extend_from_slice.new.self.items c.args.self.now.failed start _ (ap (λ a. a.items) (sym c.in-Err.ensures.err)) w)
