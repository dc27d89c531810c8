use Rattle.std.proofs.Common.{refl, inl, Err}
use Rattle.lrs_routes.specs.declared.asked.RouteRefused.TheVariants as refused
use Rattle.lrs_hall.specs.Acts.{limit_in}
use Rattle.lrs_hall.proofs.Passing.{kept_still}
use Rattle.lrs_hall.proofs.Unread.{serves_read}
use Rattle.lrs_hall.proofs.exchange.serve_read.Goals as goal

pub returns-in-Ok-clause-served : goal.returns-in-Ok-clause-served
returns-in-Ok-clause-served g c =
    let wrote = c.write_reply-sent.ensures.wrote in
    let e = c.act-reply.ensures in (
      wrote.0,
      serves_read (limit_in c.args.pass.now.marks) c.args.closes c.args.request.now c.act-reply.result.1 wrote.0 _ _ c.args.routed c.in-Ok.command c.act-reply.result.0
          c.requires.routed c.in-Ok.ensures.is e.acts e.draws wrote.1,
      wrote.2,
    )

pub returns-in-Err-clause-served : goal.returns-in-Err-clause-served
returns-in-Err-clause-served g c =
    let fixed = c.answer_fixed.ensures.fixed in
    (fixed.0, inl (Err refused.Memory, tt, (fixed.1, refl)), fixed.2)

pub returns-in-Err-clause-pass : goal.returns-in-Err-clause-pass
returns-in-Err-clause-pass g c = kept_still c.args.turns.now c.args.pass.now c.requires.idle
