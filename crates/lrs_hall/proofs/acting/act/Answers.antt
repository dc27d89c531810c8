use Rattle.lrs_machine.specs.Desk.{tide_of}
use Rattle.lrs_hall.specs.Draws.{draw_at}
use Rattle.lrs_hall.proofs.UnderTurn.{acts_on, is_taken, kept_taken}
use Rattle.lrs_hall.proofs.acting.act.Goals as goal

pub act_and_give-requires-clause-taken : goal.act_and_give-requires-clause-taken
act_and_give-requires-clause-taken g c =
    let e = c.take-desk.ensures in
    is_taken g.row.D.coded g.D.Disk.fault_count g.D.Disk.time c.args.turns.now c.take-desk.result c.args.pass.now c.take-desk.new.pass e.turn e.pass e.line e.marks e.tide

pub returns-clause-pass : goal.returns-clause-pass
returns-clause-pass g c =
    kept_taken c.take-desk.result.line (tide_of g.D.Disk.fault_count g.D.Disk.time c.take-desk.result) c.args.pass.now c.take-desk.new.pass c.take-desk.ensures.pass c.args.turns.now c.act_and_give.new.pass
    c.act_and_give.ensures.pass

pub returns-clause-acts : goal.returns-clause-acts
returns-clause-acts g c =
    acts_on c.take-desk.result.line (tide_of g.D.Disk.fault_count g.D.Disk.time c.take-desk.result) c.args.pass.now c.take-desk.new.pass c.take-desk.ensures.pass c.take-desk.result.line c.args.caller c.args.command
    c.next-draw.result (draw_at c.args.draws.now) c.act_and_give.result.0 c.act_and_give.result.1 c.act_and_give.new.pass _ _ c.now-clock.result
    c.next-draw.ensures.drawn c.act_and_give.ensures.acts c.act_and_give.ensures.clock c.now-clock.ensures.read
