use Rattle.std.proofs.Common.{arith}
use Rattle.lrs_edge.specs.declared.ahead.TheConstants.{READ_AHEAD}
use Rattle.lrs_edge.proofs.Pieces.{no_piece, piece_read, read_front}
use Rattle.lrs_edge.proofs.ahead.refill.Goals as goal

pub returns-in-Ok-clause-piece : goal.returns-in-Ok-clause-piece
returns-in-Ok-clause-piece g c = piece_read (g.B.Bytes.told c.args.inner.now) c.args.offset READ_AHEAD c.read_piece.new.piece.items c.in-Ok.ensures

pub returns-in-Ok-clause-reached : goal.returns-in-Ok-clause-reached
returns-in-Ok-clause-reached g c =
    read_front (g.B.Bytes.told c.args.inner.now) c.args.offset c.args.count READ_AHEAD c.read_piece.new.piece.items (omega arith) c.in-Ok.ensures

pub returns-in-Err-clause-piece : goal.returns-in-Err-clause-piece
returns-in-Err-clause-piece g c = no_piece (g.B.Bytes.told c.args.inner.now) c.args.offset c.forget.new.piece.items c.forget.ensures
