use Rattle.std.proofs.Common.{arith, ◌≡◌, ◌+◌, ◌∙◌, ℕ, [], ◌∷◌, ◌++◌, length, refl, subst, sym, ap, append-nil, length-append}
use Rattle.lrs_hall.specs.Steps.{AreNumbered, backwards, door_held, pass_held}
use Rattle.lrs_hall.proofs.AtDoors.{goes_over, left_all, length_popped, numbered_more}
use Rattle.lrs_hall.proofs.workers.workers_at.Goals as goal

pub loop-door-init : goal.loop-door-init
loop-door-init g c =
    let none = c.requires.room.0 in
    let few : length c.args.workers.items ≡ 0 = ap length none in
    record {
      with_passes = ap (λ ws. c.args.passes.items ++ backwards pass_held ws) none ∙ append-nil c.args.passes.items;
      at_doors = ap (λ ws. c.args.doors.items ++ backwards door_held ws) none ∙ append-nil c.args.doors.items;
      numbered = subst (λ ws. AreNumbered c.args.seed (length c.args.doors.items) ws) (let e : [] ≡ c.args.workers.items = sym none in e) tt;
      same = c.requires.same;
      count = omega (arith, few);
      room = c.requires.room.1;
    }

pub push_reserved-requires : goal.push_reserved-requires
push_reserved-requires g c =
    let so = c.loop-door.invariant in
    let fewer = length_popped c.pop.new.self.items c.loop-door.doors.items c.in-Some.door c.in-Some.ensures.items in
    let count = so.count in
    let room = so.room in
    let len = c.loop-door.workers.ok.0 in
    omega (arith, count, room, fewer, len)

pub loop-door-preserved : goal.loop-door-preserved
loop-door-preserved g c =
    let so = c.loop-door.invariant in
    let door = c.in-Some.ensures in
    let pass = c.in-Some-pop.ensures in
    let fewer = length_popped c.pop.new.self.items c.loop-door.doors.items c.in-Some.door door.items in
    let less = length_popped c.pop-in-Some.new.self.items c.loop-door.passes.items c.in-Some-pop.pass pass.items in
    let more : length c.push_reserved.new.self.items ≡ length c.loop-door.workers.items + 1 = ap length c.push_reserved.ensures.items ∙ length-append c.loop-door.workers.items (_ ∷ []) in
    record {
      with_passes = goes_over pass_held c.args.passes.items c.loop-door.passes.items c.pop-in-Some.new.self.items c.loop-door.workers.items c.push_reserved.new.self.items c.in-Some-pop.pass _ pass.items c.push_reserved.ensures.items refl so.with_passes;
      at_doors = goes_over door_held c.args.doors.items c.loop-door.doors.items c.pop.new.self.items c.loop-door.workers.items c.push_reserved.new.self.items c.in-Some.door _ door.items c.push_reserved.ensures.items refl so.at_doors;
      numbered = numbered_more c.args.seed (length c.pop.new.self.items) (c.len.result + 1) c.loop-door.workers.items c.push_reserved.new.self.items _
          (subst (λ (n : ℕ). AreNumbered c.args.seed n c.loop-door.workers.items) fewer so.numbered) c.new-draws.ensures (omega (arith, c.len.ensures)) c.push_reserved.ensures.items;
      same = omega (arith, so.same, fewer, less);
      count = omega (arith, so.count, fewer, more);
      room = omega (arith, so.room, c.push_reserved.ensures.capacity);
    }

pub returns : goal.returns
returns g c =
    let so = c.loop-door.invariant in
    let len = c.loop-door.doors.ok.0 in
    let left = c.in_default.ensures.cases.0 in
    let none : length c.loop-door.doors.items ≡ 0 = omega (arith, len, left) in
    let none_too : length c.loop-door.passes.items ≡ 0 = omega (arith, none, so.same) in
    record {
      with_passes = left_all c.loop-door.passes.items (backwards pass_held c.loop-door.workers.items) c.args.passes.items so.with_passes none_too;
      at_doors = left_all c.loop-door.doors.items (backwards door_held c.loop-door.workers.items) c.args.doors.items so.at_doors none;
      numbered = subst (λ (n : ℕ). AreNumbered c.args.seed n c.loop-door.workers.items) none so.numbered;
    }
