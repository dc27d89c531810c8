use Rattle.std.proofs.Common.{arith, ◌∙◌, refl, ap, List, ◌∷◌, ◌++◌, [], None}
use Rattle.lrs_machine.specs.Acts.{Receipt}
use Rattle.lrs_disk.specs.Door.{DoorState}
use Rattle.lrs_hall.specs.Acts.{ActsOn, limit_in}
use Rattle.lrs_hall.specs.Steps.{worker}
use Rattle.lrs_hall.specs.declared.exchange.Exchanged.TheVariants as turns
use Rattle.lrs_hall.specs.declared.talk.Finish.TheVariants as finish
use Rattle.lrs_hall.proofs.Passing.{kept_still, kept_then}
use Rattle.lrs_hall.proofs.Goes.{exchanges_same, so_far_begun, so_far_next, so_far_pushed, held_last, held_silent}
use Rattle.lrs_hall.proofs.conversation.hold.Goals as goal

pub loop-alloc-init : goal.loop-alloc-init
loop-alloc-init g c = record {
  some = omega arith;
  talk = so_far_begun (ActsOn (limit_in c.args.pass.now.marks)) (worker c.args.draws.now c.args.pass.now (g.O.Door.state c.args.door.now).readings) (g.O.Link.Link.left c.args.link.now)
      (g.O.Link.Link.taken c.args.link.now) c.new-kept.result.items c.new-receipts.result.items c.new-kept.ensures.items c.new-receipts.ensures.items;
  pass = kept_still c.args.turns.now c.args.pass.now c.requires;
  door = refl;
  stream = refl;
  name = refl;
  faults = refl;
}

pub exchange-requires : goal.exchange-requires
exchange-requires g c = c.loop-alloc.invariant.pass.idle

pub loop-alloc-preserved : goal.loop-alloc-preserved
loop-alloc-preserved g c =
    let so = c.loop-alloc.invariant in
    let turn = exchanges_same _ _ _ _ _ _ _ (turns.Next c.in-Next.receipt) c.args.pass.now.marks c.loop-alloc.pass.marks so.pass.marks c.in-Next.ensures.exchanged in
    let all = c.push_reserved.ensures.items ∙ ap (λ (rs : List Receipt). rs ++ c.in-Next.receipt ∷ []) c.has_room.ensures.items in
    record {
      some = omega (arith, turn.3);
      talk = so_far_pushed (ActsOn (limit_in c.args.pass.now.marks)) _ _ _ _ _ _ _ c.loop-alloc.receipts.items c.in-Next.receipt c.push_reserved.new.self.items
          (so_far_next (ActsOn (limit_in c.args.pass.now.marks)) _ _ _ _ _ _ _ _ _ _ c.loop-alloc.receipts.items c.in-Next.receipt so.talk turn)
          all;
      pass = kept_then c.args.turns.now c.args.pass.now c.loop-alloc.pass c.exchange.new.pass so.pass c.in-Next.ensures.pass;
      door = c.in-Next.ensures.door ∙ ap (λ (s : DoorState). record s { readings = (g.O.Door.state c.exchange.new.door).readings }) so.door;
      stream = c.in-Next.ensures.stream_kept ∙ so.stream;
      name = c.in-Next.ensures.name_kept ∙ so.name;
      faults = c.in-Next.ensures.cause ∙ so.faults;
    }

pub returns-in-Last-clause-talk : goal.returns-in-Last-clause-talk
returns-in-Last-clause-talk g c =
    let so = c.loop-alloc.invariant in
    let turn = exchanges_same _ _ None _ _ _ _ (turns.Last c.in-Last.receipt c.in-Last.finish) c.args.pass.now.marks c.loop-alloc.pass.marks so.pass.marks c.in-Last.ensures.exchanged in
    held_last (ActsOn (limit_in c.args.pass.now.marks)) _ _ _ _ _ _ None _ _ _ c.loop-alloc.receipts.items c.in-Last.receipt c.in-Last.finish c.new-in-Last.result
    so.talk turn
    (c.new-in-Last.ensures.receipts ∙ c.push_reserved-in-Last.ensures.items ∙ ap (λ (rs : List Receipt). rs ++ c.in-Last.receipt ∷ []) c.has_room.ensures.items) c.new-in-Last.ensures.finish

pub returns-in-Last-clause-pass : goal.returns-in-Last-clause-pass
returns-in-Last-clause-pass g c = kept_then c.args.turns.now c.args.pass.now c.loop-alloc.pass c.exchange.new.pass c.loop-alloc.invariant.pass c.in-Last.ensures.pass

pub returns-in-Silent-clause-talk : goal.returns-in-Silent-clause-talk
returns-in-Silent-clause-talk g c =
    held_silent (ActsOn (limit_in c.args.pass.now.marks)) _ _ _ _ _ _ _ _ _ c.loop-alloc.receipts.items c.in-Silent.finish c.new-in-Silent.result
    c.loop-alloc.invariant.talk c.in-Silent.ensures.exchanged.0 c.in-Silent.ensures.exchanged.1 c.in-Silent.ensures.exchanged.2
    (c.new-in-Silent.ensures.receipts ∙ c.has_room.ensures.items) c.new-in-Silent.ensures.finish

pub returns-in-Silent-clause-pass : goal.returns-in-Silent-clause-pass
returns-in-Silent-clause-pass g c = kept_then c.args.turns.now c.args.pass.now c.loop-alloc.pass c.exchange.new.pass c.loop-alloc.invariant.pass c.in-Silent.ensures.pass

pub returns-then-not-has_room-clause-talk : goal.returns-then-not-has_room-clause-talk
returns-then-not-has_room-clause-talk g c =
    held_silent (ActsOn (limit_in c.args.pass.now.marks)) _ _ _ _ _ _ _ _ _ c.loop-alloc.receipts.items finish.Memory c.new.result
    c.loop-alloc.invariant.talk tt refl refl (c.new.ensures.receipts ∙ c.has_room.ensures.items) c.new.ensures.finish
