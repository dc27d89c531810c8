use Rattle.std.proofs.Common.{◌≡◌, ◌∙◌, List, ℕ, Some, ap, sym, arith}
use Rattle.lrs_disk.proofs.Moments.{now_has, weaker_run}
use Rattle.lrs_journal.specs.Replay.{Replay}
use Rattle.lrs_journal.proofs.Frames.{replay_kept}
use Rattle.lrs_journal.proofs.Passing.{count_passed, damaged_passed, end_passed, ended_passed, frame_passed, frame_within, moved_passed, refused_passed, replay_passed}
use Rattle.lrs_journal.proofs.replay.Replay.next.Goals as goal

pub pass-requires-clause-room : goal.pass-requires-clause-room
pass-requires-clause-room g c size is =
    let i = c.self.inside in
    let f = c.fetch-fetched in
    let frame = frame_within i.format f.result i.offset i.size size f.new.into.items f.ensures.fits is in omega (arith, frame.fits)

pub invariant_of-self : goal.invariant_of-self
invariant_of-self g c =
    let I = g.D.Disk.image in
    let told = g.D.Disk.told in
    let i = c.self.inside in
    let f = c.fetch-fetched in
    let d1 = f.new.disk in
    let now = now_has g.D.Disk.time g.D.Disk.image_since I g.met.D.Disk.counts_now g.met.D.Disk.only_now i.disk d1 (I i.disk) f.ensures.untouched.1 in
    let passed = replay_passed i.format (told i.disk) i.limit i.size i.offset i.number i.ended f.new.into.items c.pass.new.offset c.pass.new.number c.pass.new.ended c.pass.result (I i.disk) f.result c.pass.ensures
    f.ensures.found f.ensures.fits c.self.invariant in
    replay_kept i.format (told i.disk) (told d1) (I i.disk) (I d1) i.limit i.size c.pass.new.offset c.pass.new.number c.pass.new.ended passed f.ensures.untouched.0 now

pub returns-clause-synced : goal.returns-clause-synced
returns-clause-synced g c = (invariant_of-self g c).synced

pub returns-clause-frame : goal.returns-clause-frame
returns-clause-frame g c =
    let i = c.self.inside in
    let f = c.fetch-fetched in
    rw (sym c.self.view_is)
    (frame_passed i.format (g.D.Disk.told i.disk) i.limit i.size i.offset i.number i.ended f.new.into.items c.pass.new.offset c.pass.new.number c.pass.new.ended c.pass.result f.result c.pass.ensures f.ensures.found f.ensures.fits)

pub returns-clause-end : goal.returns-clause-end
returns-clause-end g c =
    let i = c.self.inside in
    let f = c.fetch-fetched in
    rw (sym c.self.view_is)
    (end_passed i.format (g.D.Disk.told i.disk) i.limit i.size i.offset i.number i.ended f.new.into.items c.pass.new.offset c.pass.new.number c.pass.new.ended c.pass.result f.result c.pass.ensures f.ensures.found)

pub returns-clause-moved : goal.returns-clause-moved
returns-clause-moved g c =
    let i = c.self.inside in
    let f = c.fetch-fetched in
    rw (sym c.self.view_is)
    (moved_passed i.format (g.D.Disk.told i.disk) i.limit i.size i.offset i.number i.ended f.new.into.items c.pass.new.offset c.pass.new.number c.pass.new.ended c.pass.result f.result c.pass.ensures f.ensures.fits)

pub returns-clause-ended : goal.returns-clause-ended
returns-clause-ended g c =
    let i = c.self.inside in
    let f = c.fetch-fetched in
    ended_passed i.format (g.D.Disk.told i.disk) i.limit i.size i.offset i.number i.ended f.new.into.items c.pass.new.offset c.pass.new.number c.pass.new.ended c.pass.result f.result c.pass.ensures

pub returns-clause-damaged : goal.returns-clause-damaged
returns-clause-damaged g c =
    let i = c.self.inside in
    let f = c.fetch-fetched in
    rw (sym c.self.view_is)
    (damaged_passed i.format (g.D.Disk.told i.disk) i.limit i.size i.offset i.number i.ended f.new.into.items c.pass.new.offset c.pass.new.number c.pass.new.ended c.pass.result f.result c.pass.ensures f.ensures.found
    f.ensures.damaged)

pub returns-clause-refused : goal.returns-clause-refused
returns-clause-refused g c =
    let i = c.self.inside in
    let f = c.fetch-fetched in
    rw (sym c.self.view_is)
    (refused_passed i.format (g.D.Disk.told i.disk) i.limit i.size i.offset i.number i.ended f.new.into.items c.pass.new.offset c.pass.new.number c.pass.new.ended c.pass.result f.result c.pass.ensures)

pub returns-clause-format : goal.returns-clause-format
returns-clause-format g c = ap (λ (r : Replay _). r.format) c.self.view_is

pub returns-clause-limit : goal.returns-clause-limit
returns-clause-limit g c = ap (λ (r : Replay _). r.limit) c.self.view_is

pub returns-clause-still : goal.returns-clause-still
returns-clause-still g c = c.fetch-fetched.ensures.untouched.0 ∙ ap (λ (r : Replay _). g.D.Disk.told r.disk) c.self.view_is

pub returns-clause-any_moment : goal.returns-clause-any_moment
returns-clause-any_moment g c =
    let i = c.self.inside in
    rw (sym c.self.view_is)
    (weaker_run g.D.Disk.time g.D.Disk.image_since g.D.Disk.image g.met.D.Disk.counts_now g.met.D.Disk.only_now i.disk c.fetch-fetched.new.disk (g.D.Disk.image i.disk) (λ (x : List ℕ). g.D.Disk.told i.disk ≡ Some x)
    c.fetch-fetched.ensures.untouched.1 c.self.invariant.synced)

pub returns-clause-cause : goal.returns-clause-cause
returns-clause-cause g c =
    let i = c.self.inside in
    let f = c.fetch-fetched in
    rw (sym c.self.view_is)
    (count_passed i.format (g.D.Disk.told i.disk) i.limit i.size i.offset i.number i.ended f.new.into.items c.pass.new.offset c.pass.new.number c.pass.new.ended c.pass.result (g.D.Disk.fault_count i.disk) (g.D.Disk.fault_count f.new.disk)
    f.result c.pass.ensures f.ensures.cause)
