use Rattle.lrs_hall.specs.Acts.{limit_in}
use Rattle.lrs_hall.proofs.AfterTalks.{talk_goes_on, talk_on_line, talk_reads}
use Rattle.lrs_hall.specs.Acts.{ActsIn, ActsOn}
use Rattle.lrs_hall.proofs.Lines.{begins_self}
use Rattle.lrs_hall.proofs.Tides.{TidesIn, tides_in}
use Rattle.lrs_hall.proofs.Talking.{over_whole}
use Rattle.lrs_hall.proofs.Whole.{is_whole, no_fault}
use Rattle.lrs_hall.proofs.conversation.converse.Goals as goal

pub returns-clause-talk : goal.returns-clause-talk
returns-clause-talk g c =
    let talk = c.hold.ensures.talk in
    record {
      out = talk.0;
      sent = talk.1;
      begins = talk_goes_on (limit_in c.args.pass.now.marks) _ c.hold.result _ _ _ talk.2;
      talks = talk_on_line (limit_in c.args.pass.now.marks) _ c.hold.result _ _ _ talk.2 c.hold.new.pass.front (begins_self c.hold.new.pass.front);
    }

pub returns-clause-whole : goal.returns-clause-whole
returns-clause-whole g c = λ still.
    let talk = c.hold.ensures.talk in
    is_whole (ActsOn (limit_in c.args.pass.now.marks)) _ c.hold.result talk.0 _ _ talk.2 (no_fault _ _ c.hold.result.finish c.hold.ensures.cause still)

pub returns-clause-readings : goal.returns-clause-readings
returns-clause-readings g c = talk_reads (limit_in c.args.pass.now.marks) _ c.hold.result _ _ _ c.hold.ensures.talk.2

pub returns-clause-within : goal.returns-clause-within
returns-clause-within g c =
    let limit = limit_in c.args.pass.now.marks in
    let line = c.hold.new.pass.front in
    (over_whole (ActsIn limit line) (TidesIn limit line) (tides_in limit line) _ c.hold.result.receipts c.hold.ensures.talk.0 c.hold.result.finish _ _
    (talk_on_line limit _ c.hold.result _ _ _ c.hold.ensures.talk.2 line (begins_self line))).1
