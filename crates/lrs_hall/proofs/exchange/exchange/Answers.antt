use Rattle.std.proofs.Common.{Ok, subst, sym}
use Rattle.lrs_http.specs.Links.{GivesNext, stream_left}
use Rattle.lrs_hall.specs.Acts.{ActsOn, limit_in}
use Rattle.lrs_hall.specs.Steps.{Wrote}
use Rattle.lrs_hall.proofs.Passing.{kept_still}
use Rattle.lrs_hall.proofs.Exchanging.{exchanges}
use Rattle.lrs_hall.proofs.exchange.exchange.Goals as goal

pub returns-in-Ok-clause-exchanged : goal.returns-in-Ok-clause-exchanged
returns-in-Ok-clause-exchanged g c =
    let served = c.serve-receipt.ensures.served in
    let next = subst (λ left. GivesNext (stream_left c.args.kept.now.items (g.O.Link.Link.left c.args.link.now)) (Ok c.in-Ok.request) (stream_left c.read_request.new.kept.items left))
    (sym c.serve-receipt.ensures.left_kept) c.in-Ok.ensures.next in
    let wrote = subst (λ before. Wrote served.0 c.serve-receipt.result.1 before (g.O.Link.Link.taken c.serve-receipt.new.link)) c.in-Ok.ensures.taken_kept served.2 in
    exchanges (ActsOn (limit_in c.args.pass.now.marks)) c.args.most _ _ _ _ c.in-Ok.request c.serve-receipt.result.0 served.0 _ _
    next c.closes_after-closes.result c.serve-receipt.result.1 c.answered.result c.closes_after-closes.ensures served.1 wrote c.answered.ensures

pub returns-in-Err-clause-pass : goal.returns-in-Err-clause-pass
returns-in-Err-clause-pass g c = kept_still c.args.turns.now c.args.pass.now c.requires
