use Rattle.std.proofs.Common.{arith, refl}
use Rattle.lrs_hall.proofs.Gathered.{gathered_all, gathered_count, gathered_more, gathered_none}
use Rattle.lrs_hall.proofs.AtDoors.{length_popped}
use Rattle.lrs_hall.proofs.workers.gather.Goals as goal

pub loop-worker-init : goal.loop-worker-init
loop-worker-init g c = record {
  so = gathered_none c.args.workers.items c.args.workers.items c.args.passes.items c.args.doors.items c.args.talks.items refl c.requires.passes.0 c.requires.doors.0 c.requires.talks.0;
  passes = c.requires.passes.1;
  doors = c.requires.doors.1;
  talks = c.requires.talks.1;
}

pub push_reserved-requires : goal.push_reserved-requires
push_reserved-requires g c =
    let inv = c.loop-worker.invariant in
    let count = (gathered_count c.args.workers.items c.loop-worker.workers.items c.loop-worker.passes.items c.loop-worker.doors.items c.loop-worker.talks.items c.loop-worker.end inv.so).0 in
    let fewer = length_popped c.pop.new.self.items c.loop-worker.workers.items c.in-Some.worker c.in-Some.ensures.items in
    let room = inv.passes in
    let len = c.loop-worker.passes.ok.0 in
    omega (arith, count, fewer, room, len)

pub push_reserved-requires-in-Some : goal.push_reserved-requires-in-Some
push_reserved-requires-in-Some g c =
    let inv = c.loop-worker.invariant in
    let count = (gathered_count c.args.workers.items c.loop-worker.workers.items c.loop-worker.passes.items c.loop-worker.doors.items c.loop-worker.talks.items c.loop-worker.end inv.so).1 in
    let fewer = length_popped c.pop.new.self.items c.loop-worker.workers.items c.in-Some.worker c.in-Some.ensures.items in
    let room = inv.doors in
    let len = c.loop-worker.doors.ok.0 in
    omega (arith, count, fewer, room, len)

pub push_reserved-requires-in-Some-2 : goal.push_reserved-requires-in-Some-2
push_reserved-requires-in-Some-2 g c =
    let inv = c.loop-worker.invariant in
    let count = (gathered_count c.args.workers.items c.loop-worker.workers.items c.loop-worker.passes.items c.loop-worker.doors.items c.loop-worker.talks.items c.loop-worker.end inv.so).2 in
    let fewer = length_popped c.pop.new.self.items c.loop-worker.workers.items c.in-Some.worker c.in-Some.ensures.items in
    let room = inv.talks in
    let len = c.loop-worker.talks.ok.0 in
    omega (arith, count, fewer, room, len)

pub loop-worker-preserved : goal.loop-worker-preserved
loop-worker-preserved g c =
    let inv = c.loop-worker.invariant in
    record {
      so = gathered_more c.args.workers.items c.loop-worker.workers.items c.pop.new.self.items c.in-Some.worker c.loop-worker.passes.items c.push_reserved.new.self.items
          c.loop-worker.doors.items c.push_reserved-in-Some.new.self.items c.loop-worker.talks.items c.push_reserved-in-Some-2.new.self.items c.loop-worker.end c.end_with-end.result
          inv.so c.in-Some.ensures.items c.push_reserved.ensures.items c.push_reserved-in-Some.ensures.items c.push_reserved-in-Some-2.ensures.items c.end_with-end.ensures;
      passes = omega (arith, inv.passes, c.push_reserved.ensures.capacity);
      doors = omega (arith, inv.doors, c.push_reserved-in-Some.ensures.capacity);
      talks = omega (arith, inv.talks, c.push_reserved-in-Some-2.ensures.capacity);
    }

pub returns-clause-passes : goal.returns-clause-passes
returns-clause-passes g c =
    (gathered_all c.args.workers.items c.loop-worker.workers.items c.loop-worker.passes.items c.loop-worker.doors.items c.loop-worker.talks.items c.loop-worker.end c.loop-worker.invariant.so
    (let len = c.loop-worker.workers.ok.0 in let none = c.in_default.ensures.cases.0 in omega (arith, len, none))).0

pub returns-clause-doors : goal.returns-clause-doors
returns-clause-doors g c =
    (gathered_all c.args.workers.items c.loop-worker.workers.items c.loop-worker.passes.items c.loop-worker.doors.items c.loop-worker.talks.items c.loop-worker.end c.loop-worker.invariant.so
    (let len = c.loop-worker.workers.ok.0 in let none = c.in_default.ensures.cases.0 in omega (arith, len, none))).1

pub returns-clause-talks : goal.returns-clause-talks
returns-clause-talks g c =
    (gathered_all c.args.workers.items c.loop-worker.workers.items c.loop-worker.passes.items c.loop-worker.doors.items c.loop-worker.talks.items c.loop-worker.end c.loop-worker.invariant.so
    (let len = c.loop-worker.workers.ok.0 in let none = c.in_default.ensures.cases.0 in omega (arith, len, none))).2

pub returns-clause-end : goal.returns-clause-end
returns-clause-end g c =
    (gathered_all c.args.workers.items c.loop-worker.workers.items c.loop-worker.passes.items c.loop-worker.doors.items c.loop-worker.talks.items c.loop-worker.end c.loop-worker.invariant.so
    (let len = c.loop-worker.workers.ok.0 in let none = c.in_default.ensures.cases.0 in omega (arith, len, none))).3
