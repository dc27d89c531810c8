use Rattle.std.proofs.Common.{◌∙◌, List, ap, subst}
use Rattle.lrs_machine.specs.Acts.{LineGoesOn, Receipt}
use Rattle.lrs_machine.specs.Desk.{tide_of}
use Rattle.lrs_machine.specs.Line.{Record}
use Rattle.lrs_turn.specs.Passes.{given}
use Rattle.lrs_hall.proofs.UnderTurn.{acts_at, kept_after, may_give}
use Rattle.lrs_hall.proofs.acting.act_and_give.Goals as goal

pub note-requires-clause-line : goal.note-requires-clause-line
note-requires-clause-line g c =
    subst (λ (l : List Record). LineGoesOn c.act-reply.result.1 l c.act-reply.new.self.line) c.requires.taken.line c.act-reply.ensures.line

pub give-requires-clause-line : goal.give-requires-clause-line
give-requires-clause-line g c =
    let e = c.act-reply.ensures in
    rw (c.take_spent-spent.ensures)
    (may_give g.row.D.coded g.D.Disk.fault_count g.D.Disk.time c.args.turns.now c.args.desk c.act-reply.new.self c.args.pass.now c.note.new.pass c.act-reply.result.1 c.requires.taken e.line e.marks e.tide e.later c.note.ensures.pass).0

pub give-requires-clause-marks : goal.give-requires-clause-marks
give-requires-clause-marks g c =
    let e = c.act-reply.ensures in
    rw (c.take_spent-spent.ensures)
    (may_give g.row.D.coded g.D.Disk.fault_count g.D.Disk.time c.args.turns.now c.args.desk c.act-reply.new.self c.args.pass.now c.note.new.pass c.act-reply.result.1 c.requires.taken e.line e.marks e.tide e.later c.note.ensures.pass).1

pub give-requires-clause-tide : goal.give-requires-clause-tide
give-requires-clause-tide g c =
    let e = c.act-reply.ensures in
    rw (c.take_spent-spent.ensures)
    (may_give g.row.D.coded g.D.Disk.fault_count g.D.Disk.time c.args.turns.now c.args.desk c.act-reply.new.self c.args.pass.now c.note.new.pass c.act-reply.result.1 c.requires.taken e.line e.marks e.tide e.later c.note.ensures.pass).2

pub returns-clause-pass : goal.returns-clause-pass
returns-clause-pass g c =
    let e = c.act-reply.ensures in
    kept_after g.row.D.coded g.D.Disk.time g.D.Disk.fault_count c.args.turns.now c.args.desk c.act-reply.new.self c.args.pass.now c.give.new.pass c.requires.taken
    c.args.caller c.args.command c.args.clock c.args.draw.now c.act-reply.result.0 c.act-reply.result.1 e.acts e.receipt e.line e.later
    (c.give.ensures.pass ∙ (ap (λ d. given (tide_of g.D.Disk.fault_count g.D.Disk.time d) c.note.new.pass) c.take_spent-spent.ensures ∙ ap (given (tide_of g.D.Disk.fault_count g.D.Disk.time c.act-reply.new.self)) c.note.ensures.pass)) c.give.ensures.turn e.tide

pub returns-clause-acts : goal.returns-clause-acts
returns-clause-acts g c =
    let e = c.act-reply.ensures in
    acts_at g.row.D.coded g.D.Disk.time g.D.Disk.fault_count c.args.turns.now c.args.desk c.act-reply.new.self c.args.pass.now c.give.new.pass c.requires.taken
    c.args.caller c.args.command c.args.clock c.args.draw.now c.act-reply.result.0 c.act-reply.result.1 e.acts e.receipt e.line e.later
    (c.give.ensures.pass ∙ (ap (λ d. given (tide_of g.D.Disk.fault_count g.D.Disk.time d) c.note.new.pass) c.take_spent-spent.ensures ∙ ap (given (tide_of g.D.Disk.fault_count g.D.Disk.time c.act-reply.new.self)) c.note.ensures.pass))

pub returns-clause-clock : goal.returns-clause-clock
returns-clause-clock g c = ap (λ (r : Receipt). r.clock) c.act-reply.ensures.receipt

pub returns-clause-said : goal.returns-clause-said
returns-clause-said g c = (c.act-reply.ensures.acts.0, c.act-reply.ensures.acts.1)
