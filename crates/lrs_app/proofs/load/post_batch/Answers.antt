use Rattle.std.proofs.Common.{ap, rules}
use Rattle.lrs_hall.specs.LrsMachineActs.{Receipt}
use Rattle.lrs_hall.specs.LrsMachineDesk.{history}
use Rattle.lrs_app.specs.Load.{post_answer}
use Rattle.lrs_app.specs.LoadSteps.{IsOfBatch}
use Rattle.lrs_app.proofs.Loading.{answered_batch, known_said, troubled_batch}
use Rattle.lrs_app.proofs.Opened.{acts_begin}
use Rattle.lrs_app.proofs.load.post_batch.Goals as goal

pub going_on-requires : goal.going_on-requires
going_on-requires g c =
    let known : IsOfBatch c.in-Ok.answered =
    known_said (post_answer c.args.desk.now.limit (history c.args.desk.now) c.args.clock c.args.draw.now c.args.statements)
    c.post.result.1 c.args.desk.now.line c.post.new.self.line c.in-Ok.answered (rw c.in-Ok.is at c.post.ensures.acts) c.requires.known in
    search (rules, known)

pub returns-in-Ok-clause-ends : goal.returns-in-Ok-clause-ends
returns-in-Ok-clause-ends g c =
    answered_batch g.D.Disk (post_answer c.args.desk.now.limit (history c.args.desk.now) c.args.clock c.args.draw.now c.args.statements)
    c.post.result.1 c.args.desk.now c.post.new.self c.requires.settled
    (ap (λ (r : Receipt). r.was) c.post.ensures.receipt) (ap (λ (r : Receipt). r.is) c.post.ensures.receipt)
    c.in-Ok.answered c.going_on.result (rw c.in-Ok.is at c.post.ensures.acts) c.requires.known (rw c.in-Ok.is at c.going_on.ensures.said) c.going_on.ensures.cause

pub returns-in-Ok-clause-goes_on : goal.returns-in-Ok-clause-goes_on
returns-in-Ok-clause-goes_on g c = record {
  limit = c.post.ensures.same.0;
  begins = acts_begin (post_answer c.args.desk.now.limit (history c.args.desk.now) c.args.clock c.args.draw.now c.args.statements)
      c.post.result.1 c.args.desk.now.line c.post.new.self.line c.post.ensures.acts.line;
  tells = c.post.ensures.tells;
  later = c.post.ensures.later;
  stops = c.post.ensures.stops;
}

pub returns-in-Err-clause-ends : goal.returns-in-Err-clause-ends
returns-in-Err-clause-ends g c =
    rw c.troubled.ensures (troubled_batch g.D.Disk (post_answer c.args.desk.now.limit (history c.args.desk.now) c.args.clock c.args.draw.now c.args.statements)
    c.post.result.1 c.args.desk.now c.post.new.self c.requires.settled
    (ap (λ (r : Receipt). r.was) c.post.ensures.receipt) (ap (λ (r : Receipt). r.is) c.post.ensures.receipt)
    c.in-Err.trouble (rw c.in-Err.is at c.post.ensures.acts))

pub returns-in-Err-clause-goes_on : goal.returns-in-Err-clause-goes_on
returns-in-Err-clause-goes_on g c = record {
  limit = c.post.ensures.same.0;
  begins = acts_begin (post_answer c.args.desk.now.limit (history c.args.desk.now) c.args.clock c.args.draw.now c.args.statements)
      c.post.result.1 c.args.desk.now.line c.post.new.self.line c.post.ensures.acts.line;
  tells = c.post.ensures.tells;
  later = c.post.ensures.later;
  stops = c.post.ensures.stops;
}
