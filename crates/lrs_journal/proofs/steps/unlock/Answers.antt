use Rattle.std.proofs.Common.{[], ◌∷◌, drop, ◌∙◌, ap, inl, inr}
use Rattle.std.proofs.lemmas.Result.{on_ok_weaker}
use Rattle.lrs_disk.specs.Disk.{written}
use Rattle.lrs_disk.proofs.Moments.{weaker_run, then_run}
use Rattle.lrs_journal.specs.Steps.{GivesBytes, IsAtGate, IsUnlocking}
use Rattle.lrs_journal.proofs.steps.unlock.Goals as goal

pub returns-in_err-write_gate-clause-any_moment : goal.returns-in_err-write_gate-clause-any_moment
returns-in_err-write_gate-clause-any_moment g c =
    let T = g.D.Disk.time in
    let S = g.D.Disk.image_since in
    let I = g.D.Disk.image in
    let cn = g.met.D.Disk.counts_now in
    let on = g.met.D.Disk.only_now in
    let d0 = c.args.disk.now in
    let end = c.args.end in
    weaker_run T S I cn on d0 c.write_gate.new.disk (IsAtGate end (I d0)) (IsUnlocking end (GivesBytes g.D.Disk.told d0) (I d0)) c.write_gate.ensures.any_moment (λ f at. inl at)

pub returns-clause-any_moment : goal.returns-clause-any_moment
returns-clause-any_moment g c =
    let T = g.D.Disk.time in
    let S = g.D.Disk.image_since in
    let I = g.D.Disk.image in
    let cn = g.met.D.Disk.counts_now in
    let on = g.met.D.Disk.only_now in
    let d0 = c.args.disk.now in
    let d1 = c.write_gate.new.disk in
    let end = c.args.end in
    let P = IsUnlocking end (GivesBytes g.D.Disk.told d0) (I d0) in
    let closed = weaker_run T S I cn on d0 d1 (IsAtGate end (I d0)) P c.write_gate.ensures.any_moment (λ f at. inl at) in
    then_run T S I cn on d0 d1 c.write_gate-2.new.disk P (IsAtGate 0 (I d1)) closed c.write_gate-2.ensures.any_moment (λ f at.
    let from = c.in_ok-write_gate.ensures.written at.0 at.1 in
    inr (from.0, from.1, at.3 ∙ ap (λ l. drop 1 l) from.2))

pub returns-clause-opened : goal.returns-clause-opened
returns-clause-opened g c =
    let d1 = c.write_gate.new.disk in
    on_ok_weaker c.write_gate-2.result (λ opened f left.
    let second = opened f left in
    let first = c.in_ok-write_gate.ensures.written second.0 (g.met.D.Disk.reads_image d1 second.0 second.1) in
    (first.0, first.1, second.2 ∙ ap (λ l. written l 0 (1 ∷ [])) first.2)) c.write_gate-2.ensures.written
