use Rattle.std.proofs.Common.{◌++◌, List, refl, sym, subst, ap, ◌∙◌, arith}
use Rattle.std.proofs.lemmas.List.{append-nil}
use Rattle.lrs_machine.specs.Fold.{state_of}
use Rattle.lrs_machine.specs.Line.{entries, in_doubt, opened_line, line_of}
use Rattle.lrs_machine.specs.Origin.{ComesFrom}
use Rattle.lrs_machine.proofs.Counts.{counted_opened}
use Rattle.lrs_machine.proofs.Lines.{doubt_opened}
use Rattle.lrs_machine.proofs.Origins.{comes_here, disk_in}
use Rattle.lrs_machine.proofs.Tied.{on_disk, opened_tied}
use Rattle.lrs_machine.proofs.opening.opened.Goals as goal

pub invariant_of-result : goal.invariant_of-result
invariant_of-result g c = (
  opened_tied g.D.Disk.told g.D.Disk.image g.D.Disk.time g.D.Disk.image_since g.met.D.Disk.only_now c.args.journal (state_of c.args.fold) c.moment-opened_at.result c.args.opening.items c.new.result.items
      c.requires.opened c.moment-opened_at.ensures c.new.ensures,
  (c.length-opened.ensures.number ∙ c.requires.opened.counts, omega (arith, c.length-opened.ensures.number, c.requires.opened.counts, c.requires.opened.legal.0)),
  counted_opened c.length-opened.result c.moment-opened_at.result c.args.opening.items c.new.result.items c.new.ensures (c.length-opened.ensures.number ∙ c.requires.opened.counts),
  subst (λ j. ComesFrom g.D.Disk.told g.D.Disk.time g.D.Disk.image_since c.args.journal.limit c.length-opened.result (entries (line_of c.moment-opened_at.result c.args.opening.items c.new.result.items)) (disk_in j) c.args.journal.disk) (sym c.of-origin.ensures)
      (let o = on_disk g.D.Disk.told g.D.Disk.image g.D.Disk.time g.D.Disk.image_since g.met.D.Disk.only_now g.met.D.Disk.tells c.args.journal (state_of c.args.fold) c.args.fold.parts c.moment-opened_at.result c.length-opened.result c.args.journal.disk c.args.opening.items c.new.result.items
      (opened_tied g.D.Disk.told g.D.Disk.image g.D.Disk.time g.D.Disk.image_since g.met.D.Disk.only_now c.args.journal (state_of c.args.fold) c.moment-opened_at.result c.args.opening.items c.new.result.items
      c.requires.opened c.moment-opened_at.ensures c.new.ensures)
      (c.length-opened.ensures.number ∙ c.requires.opened.counts) (omega (arith, c.length-opened.ensures.number, c.requires.opened.counts, c.requires.opened.legal.0)) in
      comes_here g.D.Disk.told g.D.Disk.image g.D.Disk.time g.D.Disk.image_since g.met.D.Disk.only_now c.args.journal.disk c.args.journal.limit c.length-opened.result (line_of c.moment-opened_at.result c.args.opening.items c.new.result.items)
      o.opening.1 o.legal
      (ap in_doubt (ap (λ acts. opened_line c.moment-opened_at.result c.args.opening.items ++ acts) c.new.ensures ∙ append-nil (opened_line c.moment-opened_at.result c.args.opening.items))
      ∙ doubt_opened c.moment-opened_at.result c.args.opening.items)
      o.each),
)

pub returns-clause-line : goal.returns-clause-line
returns-clause-line g c = ap (λ acts. opened_line c.moment-opened_at.result c.args.opening.items ++ acts) c.new.ensures ∙ append-nil (opened_line c.moment-opened_at.result c.args.opening.items)

pub returns-clause-durable : goal.returns-clause-durable
returns-clause-durable g c =
    on_disk g.D.Disk.told g.D.Disk.image g.D.Disk.time g.D.Disk.image_since g.met.D.Disk.only_now g.met.D.Disk.tells c.args.journal (state_of c.args.fold) c.args.fold.parts c.moment-opened_at.result c.length-opened.result _ c.args.opening.items c.new.result.items
    (opened_tied g.D.Disk.told g.D.Disk.image g.D.Disk.time g.D.Disk.image_since g.met.D.Disk.only_now c.args.journal (state_of c.args.fold) c.moment-opened_at.result c.args.opening.items c.new.result.items
    c.requires.opened c.moment-opened_at.ensures c.new.ensures)
    (c.length-opened.ensures.number ∙ c.requires.opened.counts) (omega (arith, c.length-opened.ensures.number, c.requires.opened.counts, c.requires.opened.legal.0))

pub returns-clause-fields : goal.returns-clause-fields
returns-clause-fields g c = (
  refl,
  ap in_doubt (ap (λ acts. opened_line c.moment-opened_at.result c.args.opening.items ++ acts) c.new.ensures ∙ append-nil (opened_line c.moment-opened_at.result c.args.opening.items))
      ∙ doubt_opened c.moment-opened_at.result c.args.opening.items,
  c.length-opened.ensures.number ∙ c.requires.opened.counts,
)

pub returns-clause-origin : goal.returns-clause-origin
returns-clause-origin g c = ap disk_in c.of-origin.ensures
