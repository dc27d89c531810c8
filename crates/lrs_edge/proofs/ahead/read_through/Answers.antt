use Rattle.std.proofs.Common.{◌∙◌, ◌-◌, ℕ, List, length, take, drop, min, ap}
use Rattle.lrs_edge.proofs.Pieces.{copied_number, copied_bytes}
use Rattle.lrs_edge.proofs.ahead.read_through.Goals as goal

pub returns-in-Some-clause-number : goal.returns-in-Some-clause-number
returns-in-Some-clause-number g c =
    copied_number (g.B.Bytes.told c.args.inner.now) c.in-Some.within c.args.offset (length c.args.into.now) c.copied.result c.reach.new.piece.items
    (c.copied.ensures.number ∙ ap (λ (l : List ℕ). min (length c.args.into.now) (length l - c.in-Some.within)) c.deref.ensures.value) c.in-Some.ensures.reached

pub returns-in-Some-clause-bytes : goal.returns-in-Some-clause-bytes
returns-in-Some-clause-bytes g c =
    copied_bytes (g.B.Bytes.told c.args.inner.now) c.in-Some.within c.args.offset (length c.args.into.now) c.copied.result c.reach.new.piece.items c.copied.new.into
    (c.copied.ensures.number ∙ ap (λ (l : List ℕ). min (length c.args.into.now) (length l - c.in-Some.within)) c.deref.ensures.value)
    (c.copied.ensures.bytes ∙ ap (λ (l : List ℕ). take c.copied.result (drop c.in-Some.within l)) c.deref.ensures.value) c.in-Some.ensures.reached
