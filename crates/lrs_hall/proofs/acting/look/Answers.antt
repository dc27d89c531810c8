use Rattle.std.proofs.Common.{◌∙◌, ap, refl, subst, sym}
use Rattle.lrs_command.specs.Commands.{HasReadTrees}
use Rattle.lrs_command.specs.declared.command.Command.{Command}
use Rattle.lrs_command.specs.Areas.{command_area}
use Rattle.lrs_machine.specs.Desk.{tide_of}
use Rattle.lrs_hall.specs.Acts.{Seen}
use Rattle.lrs_hall.specs.Conversation.{Worker}
use Rattle.lrs_hall.specs.Acts.{SeenAndClock}
use Rattle.lrs_hall.specs.Draws.{draw_at}
use Rattle.lrs_hall.proofs.UnderTurn.{acts_on, is_taken, kept_taken, looked, may_put_back}
use Rattle.lrs_hall.proofs.Unread.{acts_alike}
use Rattle.lrs_hall.proofs.acting.look.Goals as goal

pub put_back-requires-clause-tide : goal.put_back-requires-clause-tide
put_back-requires-clause-tide g c =
    may_put_back c.take-desk.result.line (tide_of g.D.Disk.fault_count g.D.Disk.time c.take-desk.result) c.args.pass.now c.take-desk.new.pass c.take-desk.ensures.pass

pub returns-then-lets_in-clause-pass : goal.returns-then-lets_in-clause-pass
returns-then-lets_in-clause-pass g c =
    (looked c.args.turns.now c.take-desk.result.line (tide_of g.D.Disk.fault_count g.D.Disk.time c.take-desk.result) c.args.pass.now c.take-desk.new.pass c.put_back.new.pass c.take-desk.ensures.pass
    c.put_back.ensures.turn c.put_back.ensures.pass).0

pub returns-then-lets_in-clause-looked : goal.returns-then-lets_in-clause-looked
returns-then-lets_in-clause-looked g c =
    let same = (looked c.args.turns.now c.take-desk.result.line (tide_of g.D.Disk.fault_count g.D.Disk.time c.take-desk.result) c.args.pass.now c.take-desk.new.pass c.put_back.new.pass c.take-desk.ensures.pass
    c.put_back.ensures.turn c.put_back.ensures.pass).1 in (
      refl,
      ap (λ (s : Seen). let w : Worker SeenAndClock = record { draws = c.args.draws.now; reached = record { seen = s; readings = (g.O.Door.state c.args.door.now).readings } } in w) same,
      (c.take-desk.result.line, c.take-desk.ensures.line, sym c.lets_in.ensures ∙ c.if-lets_in.true),
    )

pub act_and_give-reply-requires-clause-taken : goal.act_and_give-reply-requires-clause-taken
act_and_give-reply-requires-clause-taken g c =
    let e = c.take-desk.ensures in
    is_taken g.row.D.coded g.D.Disk.fault_count g.D.Disk.time c.args.turns.now c.take-desk.result c.args.pass.now c.take-desk.new.pass e.turn e.pass e.line e.marks e.tide

pub act_and_give-reply-requires-clause-command : goal.act_and_give-reply-requires-clause-command
act_and_give-reply-requires-clause-command g c = subst (λ (k : Command). HasReadTrees k) (sym c.unjudged-command.ensures) tt

pub returns-clause-pass : goal.returns-clause-pass
returns-clause-pass g c =
    kept_taken c.take-desk.result.line (tide_of g.D.Disk.fault_count g.D.Disk.time c.take-desk.result) c.args.pass.now c.take-desk.new.pass c.take-desk.ensures.pass c.args.turns.now c.act_and_give-reply.new.pass
    c.act_and_give-reply.ensures.pass

pub returns-clause-looked : goal.returns-clause-looked
returns-clause-looked g c =
    let done = c.act_and_give-reply in (
      λ command of.
          acts_on c.take-desk.result.line (tide_of g.D.Disk.fault_count g.D.Disk.time c.take-desk.result) c.args.pass.now c.take-desk.new.pass c.take-desk.ensures.pass c.take-desk.result.line c.args.routed.caller command
          c.next-draw.result (draw_at c.args.draws.now) done.result.0 done.result.1 done.new.pass _ _ c.now-clock.result
          c.next-draw.ensures.drawn
          (acts_alike c.take-desk.result.line _ c.args.routed.caller c.args.routed.area _ command c.next-draw.result done.result.0 done.result.1 _ _ (sym c.lets_in.ensures ∙ c.if-lets_in.false) (ap command_area c.unjudged-command.ensures) of done.ensures.acts)
          done.ensures.clock c.now-clock.ensures.read,
      c.next-draw.ensures.moved,
      done.ensures.said,
    )
