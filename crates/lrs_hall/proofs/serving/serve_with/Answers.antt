use Rattle.std.proofs.Common.{arith, ◌≡◌, ◌<◌, ◌+◌, ◌∙◌, List, ◌∷◌, ◌++◌, [], length, refl, ap, inl}
use Rattle.std.proofs.lemmas.List.{length_push}
use Rattle.lrs_hall.specs.Acts.{ActsOn, limit_in}
use Rattle.lrs_hall.specs.Talks.{Talk}
use Rattle.lrs_hall.specs.declared.serving.ServeEnd.TheVariants as serve
use Rattle.lrs_hall.proofs.Passing.{kept_still, kept_then}
use Rattle.lrs_hall.proofs.Doors.{on_link_same, served_none, served_one, served_so, ends_so}
use Rattle.lrs_hall.proofs.serving.serve_with.Goals as goal

pub loop-left-init : goal.loop-left-init
loop-left-init g c =
    let none : length c.new-talks.result.items ≡ 0 = ap length c.new-talks.ensures.items in
    record {
      count = omega arith;
      served = served_none (ActsOn (limit_in c.args.pass.now.marks)) _ (g.O.Door.state c.args.door.now) c.new-talks.result.items c.new-talks.ensures.items c.requires.out;
      pass = kept_still c.args.turns.now c.args.pass.now c.requires.idle;
    }

pub serve_one-requires-clause-out : goal.serve_one-requires-clause-out
serve_one-requires-clause-out g c = c.loop-left.invariant.served.out

pub serve_one-requires-clause-idle : goal.serve_one-requires-clause-idle
serve_one-requires-clause-idle g c = c.loop-left.invariant.pass.idle

pub loop-left-preserved : goal.loop-left-preserved
loop-left-preserved g c =
    let so = c.loop-left.invariant in
    let turn = c.in-Ok.ensures.served in
    let all : c.push_reserved.new.self.items ≡ c.loop-left.talks.items ++ c.in-Ok.talk ∷ [] = c.push_reserved.ensures.items ∙ ap (λ (ts : List Talk). ts ++ c.in-Ok.talk ∷ []) c.has_room.ensures.items in
    let long : length c.push_reserved.new.self.items ≡ length c.loop-left.talks.items + 1 = ap length all ∙ length_push c.loop-left.talks.items c.in-Ok.talk in
    record {
      count = omega (arith, so.count);
      served = served_one (ActsOn (limit_in c.args.pass.now.marks)) _ _ _ (g.O.Door.state c.args.door.now) (g.O.Door.state c.loop-left.door) (g.O.Door.state c.serve_one.new.door) c.loop-left.talks.items c.in-Ok.talk turn.0 c.push_reserved.new.self.items
          so.served (on_link_same c.in-Ok.talk turn.0 _ _ c.args.pass.now.marks c.loop-left.pass.marks so.pass.marks turn.1) turn.2 all;
      pass = kept_then c.args.turns.now c.args.pass.now c.loop-left.pass c.serve_one.new.pass so.pass c.in-Ok.ensures.pass;
    }

pub returns-then-not-has_room-clause-served : goal.returns-then-not-has_room-clause-served
returns-then-not-has_room-clause-served g c =
    let so = c.loop-left.invariant in
    served_so (ActsOn (limit_in c.args.pass.now.marks)) c.args.connections _ _ _ (g.O.Door.state c.args.door.now) (g.O.Door.state c.loop-left.door) (g.O.Door.state c.loop-left.door) c.loop-left.talks.items c.has_room.new.items.items serve.Memory
    so.served refl so.served.out refl refl c.has_room.ensures.items (omega (arith, so.count), so.served.faults)

pub returns-in-Err-clause-served : goal.returns-in-Err-clause-served
returns-in-Err-clause-served g c =
    let so = c.loop-left.invariant in
    let turn = c.in-Err.ensures.served in
    let few : length c.loop-left.talks.items < c.args.connections = omega (arith, so.count, c.loop-left-test.true) in
    served_so (ActsOn (limit_in c.args.pass.now.marks)) c.args.connections _ _ _ (g.O.Door.state c.args.door.now) (g.O.Door.state c.loop-left.door) (g.O.Door.state c.serve_one.new.door) c.loop-left.talks.items c.has_room.new.items.items c.in-Err.end
    so.served turn.0 turn.1.out turn.1.returned turn.1.streams c.has_room.ensures.items
    (ends_so c.args.connections (length c.loop-left.talks.items) (g.O.Door.state c.args.door.now) (g.O.Door.state c.loop-left.door) (g.O.Door.state c.serve_one.new.door) c.in-Err.end few so.served.faults turn.1.why turn.1.not_memory)

pub returns-in-Err-clause-pass : goal.returns-in-Err-clause-pass
returns-in-Err-clause-pass g c = kept_then c.args.turns.now c.args.pass.now c.loop-left.pass c.serve_one.new.pass c.loop-left.invariant.pass c.in-Err.ensures.pass

pub returns-clause-served : goal.returns-clause-served
returns-clause-served g c =
    let so = c.loop-left.invariant in
    let whole : length c.loop-left.talks.items ≡ c.args.connections = omega (arith, so.count, c.loop-left-test.false) in
    served_so (ActsOn (limit_in c.args.pass.now.marks)) c.args.connections _ _ _ (g.O.Door.state c.args.door.now) (g.O.Door.state c.loop-left.door) (g.O.Door.state c.loop-left.door) c.loop-left.talks.items c.loop-left.talks.items serve.Done
    so.served refl so.served.out refl refl refl (so.served.faults, inl whole)

pub returns-clause-pass : goal.returns-clause-pass
returns-clause-pass g c = c.loop-left.invariant.pass
