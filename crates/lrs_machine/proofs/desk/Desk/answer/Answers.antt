use Rattle.std.proofs.Common.{refl, sym}
use Rattle.std.specs.Prelude.{option_map, is_ok}
use Rattle.lrs_fold.specs.LrsHistoryHistory.{answer}
use Rattle.lrs_machine.specs.Desk.{Desk}
use Rattle.lrs_machine.specs.Fold.{state_of}
use Rattle.lrs_machine.specs.Line.{entries, line_of, sure}
use Rattle.lrs_machine.proofs.Counts.{counted_next, counts_on, moved_acts}
use Rattle.lrs_machine.proofs.DeskLemmas.{act_put}
use Rattle.lrs_machine.proofs.Lines.{noted, not_longer}
use Rattle.lrs_machine.proofs.Origins.{comes_on, happens_begins, opened_sure}
use Rattle.lrs_machine.proofs.Tied.{acted, limit_stays, on_disk, tells_alike}
use Rattle.lrs_machine.proofs.desk.Desk.answer.Goals as goal

pub invariant_of-self : goal.invariant_of-self
invariant_of-self g c =
    let i = c.self.inside in
    let a = c.act-said in
    let made = option_map (λ s. s.value) a.result.made in
    let is = noted i.opened_at i.opening.items i.acts.items c.note.new.acts.items made c.is_ok.result (is_ok a.result.said) a.result.landed c.moment.result (g.D.Disk.time a.new.journal.disk) c.note.ensures.noted c.is_ok.ensures.value c.moment.ensures in (
      (acted g.D.Disk.told g.D.Disk.image g.D.Disk.time g.D.Disk.image_since g.met.D.Disk.only_now i.journal a.new.journal c.args.caller c.args.command c.args.clock c.args.draw.now (state_of i.fold) (state_of a.new.fold) a.result.said made
          (line_of i.opened_at i.opening.items i.acts.items) (line_of i.opened_at i.opening.items c.note.new.acts.items) a.result.landed c.self.invariant.0 a.ensures.sound a.ensures.does a.ensures.landed is).0,
      c.self.invariant.1,
      counted_next (answer i.journal.limit (entries (line_of i.opened_at i.opening.items i.acts.items)) c.args.caller c.args.command c.args.clock c.args.draw.now) a.result.said a.result.landed (g.D.Disk.time a.new.journal.disk)
          (line_of i.opened_at i.opening.items i.acts.items) (line_of i.opened_at i.opening.items c.note.new.acts.items) i.records c.note.new.records
          (acted g.D.Disk.told g.D.Disk.image g.D.Disk.time g.D.Disk.image_since g.met.D.Disk.only_now i.journal a.new.journal c.args.caller c.args.command c.args.clock c.args.draw.now (state_of i.fold) (state_of a.new.fold) a.result.said made
          (line_of i.opened_at i.opening.items i.acts.items) (line_of i.opened_at i.opening.items c.note.new.acts.items) a.result.landed c.self.invariant.0 a.ensures.sound a.ensures.does a.ensures.landed is).1
          (moved_acts i.opened_at i.opening.items i.acts.items c.note.new.acts.items i.records c.note.new.records c.note.ensures.counted) c.self.invariant.2,
      comes_on g.D.Disk.told g.D.Disk.image g.D.Disk.time g.D.Disk.image_since i.origin.value.disk i.journal.disk a.new.journal.disk i.journal.limit a.new.journal.limit i.opened (sure (line_of i.opened_at i.opening.items i.acts.items))
          (entries (line_of i.opened_at i.opening.items i.acts.items)) (entries (line_of i.opened_at i.opening.items c.note.new.acts.items)) c.self.invariant.3
          (tells_alike g.D.Disk.told made i.journal a.new.journal a.ensures.does.grew)
          (happens_begins (answer i.journal.limit (entries (line_of i.opened_at i.opening.items i.acts.items)) c.args.caller c.args.command c.args.clock c.args.draw.now) a.result.said a.result.landed (g.D.Disk.time a.new.journal.disk)
          (line_of i.opened_at i.opening.items i.acts.items) (line_of i.opened_at i.opening.items c.note.new.acts.items)
          (acted g.D.Disk.told g.D.Disk.image g.D.Disk.time g.D.Disk.image_since g.met.D.Disk.only_now i.journal a.new.journal c.args.caller c.args.command c.args.clock c.args.draw.now (state_of i.fold) (state_of a.new.fold) a.result.said made
          (line_of i.opened_at i.opening.items i.acts.items) (line_of i.opened_at i.opening.items c.note.new.acts.items) a.result.landed c.self.invariant.0 a.ensures.sound a.ensures.does a.ensures.landed is).1)
          (opened_sure i.opened_at i.opened i.opening.items i.acts.items c.self.invariant.1.0)
          (acted g.D.Disk.told g.D.Disk.image g.D.Disk.time g.D.Disk.image_since g.met.D.Disk.only_now i.journal a.new.journal c.args.caller c.args.command c.args.clock c.args.draw.now (state_of i.fold) (state_of a.new.fold) a.result.said made
          (line_of i.opened_at i.opening.items i.acts.items) (line_of i.opened_at i.opening.items c.note.new.acts.items) a.result.landed c.self.invariant.0 a.ensures.sound a.ensures.does a.ensures.landed is).2
          (limit_stays g.D.Disk.told made i.journal a.new.journal a.ensures.does.grew),
    )

pub note-requires : goal.note-requires
note-requires g c =
    let i = c.self.inside in
    counts_on i.records i.journal.limit (line_of i.opened_at i.opening.items i.acts.items) c.self.invariant.0.sound.most c.self.invariant.0.legal c.self.invariant.2

pub returns-clause-happens : goal.returns-clause-happens
returns-clause-happens g c =
    let i = c.self.inside in
    let a = c.act-said in
    let made = option_map (λ s. s.value) a.result.made in
    let is = noted i.opened_at i.opening.items i.acts.items c.note.new.acts.items made c.is_ok.result (is_ok a.result.said) a.result.landed c.moment.result (g.D.Disk.time a.new.journal.disk) c.note.ensures.noted c.is_ok.ensures.value c.moment.ensures in
    rw (sym c.self.view_is)
    (acted g.D.Disk.told g.D.Disk.image g.D.Disk.time g.D.Disk.image_since g.met.D.Disk.only_now i.journal a.new.journal c.args.caller c.args.command c.args.clock c.args.draw.now (state_of i.fold) (state_of a.new.fold) a.result.said made
    (line_of i.opened_at i.opening.items i.acts.items) (line_of i.opened_at i.opening.items c.note.new.acts.items) a.result.landed c.self.invariant.0 a.ensures.sound a.ensures.does a.ensures.landed is).1

pub returns-clause-stops : goal.returns-clause-stops
returns-clause-stops g c =
    let i = c.self.inside in
    let a = c.act-said in
    let made = option_map (λ s. s.value) a.result.made in
    let is = noted i.opened_at i.opening.items i.acts.items c.note.new.acts.items made c.is_ok.result (is_ok a.result.said) a.result.landed c.moment.result (g.D.Disk.time a.new.journal.disk) c.note.ensures.noted c.is_ok.ensures.value c.moment.ensures in
    rw (sym c.self.view_is)
    (acted g.D.Disk.told g.D.Disk.image g.D.Disk.time g.D.Disk.image_since g.met.D.Disk.only_now i.journal a.new.journal c.args.caller c.args.command c.args.clock c.args.draw.now (state_of i.fold) (state_of a.new.fold) a.result.said made
    (line_of i.opened_at i.opening.items i.acts.items) (line_of i.opened_at i.opening.items c.note.new.acts.items) a.result.landed c.self.invariant.0 a.ensures.sound a.ensures.does a.ensures.landed is).2

pub returns-clause-durable : goal.returns-clause-durable
returns-clause-durable g c =
    let i = c.self.inside in
    let a = c.act-said in
    let made = option_map (λ s. s.value) a.result.made in
    let is = noted i.opened_at i.opening.items i.acts.items c.note.new.acts.items made c.is_ok.result (is_ok a.result.said) a.result.landed c.moment.result (g.D.Disk.time a.new.journal.disk) c.note.ensures.noted c.is_ok.ensures.value c.moment.ensures in
    on_disk g.D.Disk.told g.D.Disk.image g.D.Disk.time g.D.Disk.image_since g.met.D.Disk.only_now g.met.D.Disk.tells a.new.journal (state_of a.new.fold) a.new.fold.parts i.opened_at i.opened _ i.opening.items c.note.new.acts.items
    (acted g.D.Disk.told g.D.Disk.image g.D.Disk.time g.D.Disk.image_since g.met.D.Disk.only_now i.journal a.new.journal c.args.caller c.args.command c.args.clock c.args.draw.now (state_of i.fold) (state_of a.new.fold) a.result.said made
    (line_of i.opened_at i.opening.items i.acts.items) (line_of i.opened_at i.opening.items c.note.new.acts.items) a.result.landed c.self.invariant.0 a.ensures.sound a.ensures.does a.ensures.landed is).0
    c.self.invariant.1.0 c.self.invariant.1.1

pub returns-clause-slots : goal.returns-clause-slots
returns-clause-slots g c =
    let i = c.self.inside in
    let a = c.act-said in
    let made = option_map (λ s. s.value) a.result.made in
    let is = noted i.opened_at i.opening.items i.acts.items c.note.new.acts.items made c.is_ok.result (is_ok a.result.said) a.result.landed c.moment.result (g.D.Disk.time a.new.journal.disk) c.note.ensures.noted c.is_ok.ensures.value c.moment.ensures in
    rw (sym c.self.view_is)
    (λ same. a.ensures.slots (not_longer (λ s. s.value) (line_of i.opened_at i.opening.items i.acts.items) (line_of i.opened_at i.opening.items c.note.new.acts.items) a.result.made (is_ok a.result.said) a.result.landed (g.D.Disk.time a.new.journal.disk) is same))

pub returns-clause-known : goal.returns-clause-known
returns-clause-known g c = λ put.
    act_put c.self.inside.journal.limit c.self.inside.journal.end (state_of c.self.inside.fold) c.args.caller c.args.command c.args.clock c.args.draw.now c.self.inside.journal.doubt c.act-said.new.journal.doubt
    (option_map (λ s. s.value) c.act-said.result.made) c.act-said.result.said c.act-said.ensures.does.says put

pub returns-clause-same : goal.returns-clause-same
returns-clause-same g c =
    rw (sym c.self.view_is) (limit_stays g.D.Disk.told (option_map (λ s. s.value) c.act-said.result.made) c.self.inside.journal c.act-said.new.journal c.act-said.ensures.does.grew, refl, refl)

pub returns-clause-tells : goal.returns-clause-tells
returns-clause-tells g c =
    rw (sym c.self.view_is) (tells_alike g.D.Disk.told (option_map (λ s. s.value) c.act-said.result.made) c.self.inside.journal c.act-said.new.journal c.act-said.ensures.does.grew)

pub returns-clause-origin : goal.returns-clause-origin
returns-clause-origin g c = rw (sym c.self.view_is) refl
