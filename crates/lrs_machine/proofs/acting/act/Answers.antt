use Rattle.std.proofs.Common.{refl}
use Rattle.std.specs.Prelude.{option_map}
use Rattle.lrs_fold.specs.LrsHistoryHistory.{outcome}
use Rattle.lrs_machine.specs.Fold.{state_of}
use Rattle.lrs_machine.proofs.ActLemmas.{landed_does, settled_does, settled_doubt, unlanded, unsettled_does, unsettled_doubt}
use Rattle.lrs_parts.proofs.Ahead.{none_more}
use Rattle.lrs_machine.proofs.acting.act.Goals as goal

pub returns-in-Ok-clause-does : goal.returns-in-Ok-clause-does
returns-in-Ok-clause-does g c =
    let s = c.settle.ensures in
    settled_does g.D.Disk.told g.D.Disk.time g.D.Disk.image_since c.args.journal.now c.settle.new.self c.answer-said.new.journal (state_of c.args.fold.now) (state_of c.answer-said.new.fold)
    (outcome (state_of c.args.fold.now) c.args.caller c.args.command c.args.clock c.args.draw.now) c.answer-said.result.0 (option_map (λ s. s.value) c.answer-said.result.1)
    s.frames (settled_doubt c.args.journal.now c.settle.new.self c.settle.result c.in-Ok.landed c.in-Ok.is s.none s.some) s.later s.any_moment c.answer-said.ensures.does

pub returns-in-Ok-clause-landed : goal.returns-in-Ok-clause-landed
returns-in-Ok-clause-landed g c =
    let s = c.settle.ensures in
    landed_does g.D.Disk.told g.D.Disk.time g.D.Disk.image_since c.args.journal.now c.settle.new.self c.answer-said.new.journal (state_of c.args.fold.now) (state_of c.answer-said.new.fold)
    (outcome (state_of c.args.fold.now) c.args.caller c.args.command c.args.clock c.args.draw.now) c.answer-said.result.0 (option_map (λ s. s.value) c.answer-said.result.1)
    c.settle.result c.in-Ok.landed c.in-Ok.is s.none s.some c.answer-said.ensures.does

pub returns-in-Err-clause-does : goal.returns-in-Err-clause-does
returns-in-Err-clause-does g c =
    let s = c.settle.ensures in
    unsettled_does g.D.Disk.told g.D.Disk.time g.D.Disk.image_since c.args.journal.now c.settle.new.self (state_of c.args.fold.now)
    (outcome (state_of c.args.fold.now) c.args.caller c.args.command c.args.clock c.args.draw.now)
    s.frames (unsettled_doubt c.args.journal.now c.settle.new.self c.settle.result c.in-Err.field-0 c.in-Err.is s.none) s.later s.any_moment

pub returns-in-Err-clause-landed : goal.returns-in-Err-clause-landed
returns-in-Err-clause-landed g c = unlanded g.D.Disk.told c.args.journal.now c.settle.new.self (c.in-Err.ensures.failed refl)

pub returns-in-Err-clause-slots : goal.returns-in-Err-clause-slots
returns-in-Err-clause-slots g c = λ none. none_more c.args.fold.now.parts
