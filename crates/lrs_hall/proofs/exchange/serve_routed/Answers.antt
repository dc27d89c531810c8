use Rattle.std.proofs.Common.{subst, sym}
use Rattle.lrs_record.specs.Entries.{IsLawfulCaller}
use Rattle.lrs_routes.specs.Asked.{IsRoutedAs}
use Rattle.lrs_routes.specs.declared.asked.Routed.{Routed}
use Rattle.lrs_hall.specs.Acts.{limit_in}
use Rattle.lrs_hall.proofs.Passing.{kept_then, serves_later}
use Rattle.lrs_hall.proofs.Unread.{serves_unread}
use Rattle.lrs_hall.proofs.exchange.serve_routed.Goals as goal

pub serve_read-requires-in-LetIn-clause-idle : goal.serve_read-requires-in-LetIn-clause-idle
serve_read-requires-in-LetIn-clause-idle g c = c.in-LetIn.ensures.pass.idle

pub serve_read-requires-in-LetIn-clause-routed : goal.serve_read-requires-in-LetIn-clause-routed
serve_read-requires-in-LetIn-clause-routed g c = subst (λ (r : Routed). IsRoutedAs c.args.request.now r) (sym c.in-LetIn.ensures.looked.0) c.requires.routed

pub serve_read-requires-in-LetIn-clause-lawful : goal.serve_read-requires-in-LetIn-clause-lawful
serve_read-requires-in-LetIn-clause-lawful g c = subst (λ (r : Routed). IsLawfulCaller r.caller) (sym c.in-LetIn.ensures.looked.0) c.requires.lawful

pub returns-in-LetIn-clause-served : goal.returns-in-LetIn-clause-served
returns-in-LetIn-clause-served g c =
    serves_later c.args.closes c.args.request.now _ _ _ c.args.pass.now.marks c.look.new.pass.marks c.serve_read-in-LetIn.result.0 c.serve_read-in-LetIn.result.1 _ _
    c.in-LetIn.ensures.pass.marks c.in-LetIn.ensures.looked.1 c.serve_read-in-LetIn.ensures.served

pub returns-in-LetIn-clause-pass : goal.returns-in-LetIn-clause-pass
returns-in-LetIn-clause-pass g c = kept_then c.args.turns.now c.args.pass.now c.look.new.pass c.serve_read-in-LetIn.new.pass c.in-LetIn.ensures.pass c.serve_read-in-LetIn.ensures.pass

pub write_reply-sent-requires : goal.write_reply-sent-requires
write_reply-sent-requires g c = c.in-Barred.ensures.looked.2

pub returns-in-Barred-clause-served : goal.returns-in-Barred-clause-served
returns-in-Barred-clause-served g c =
    let wrote = c.write_reply-sent.ensures.wrote in
    let looked = c.in-Barred.ensures.looked in (
      wrote.0,
      serves_unread (limit_in c.args.pass.now.marks) c.args.closes c.args.request.now c.in-Barred.receipt wrote.0 _ _ c.args.routed c.in-Barred.reply c.requires.routed looked.0 looked.1 wrote.1,
      wrote.2,
    )
