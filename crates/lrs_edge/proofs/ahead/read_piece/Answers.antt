use Rattle.std.proofs.Common.{◌∙◌, ◌-◌, ℕ, length, min, ap}
use Rattle.lrs_edge.specs.declared.ahead.TheConstants.{READ_AHEAD}
use Rattle.lrs_edge.proofs.Pieces.{part_read}
use Rattle.lrs_edge.proofs.ahead.read_piece.Goals as goal

pub returns : goal.returns
returns g c x told_x =
    part_read READ_AHEAD c.in_ok-number.number c.args.offset c.truncate.new.self.items c.fill.new.into.items x c.truncate.ensures.items
    (c.in_ok-number.ensures.number x told_x ∙ ap (λ (k : ℕ). min k (length x - c.args.offset)) c.in_ok-widen.ensures) (c.in_ok-number.ensures.bytes x told_x)
