use Rattle.std.proofs.Common.{◌≡◌, ℕ, List, [], ◌∷◌, take, inl, ap, arith}
use Rattle.std.proofs.lemmas.Result.{on_ok_weaker}
use Rattle.lrs_disk.proofs.Moments.{weaker_run, then_run, now_has}
use Rattle.lrs_journal.specs.Store.{HasNoHeader}
use Rattle.lrs_journal.specs.Steps.{KeepsUpTo, IsAtGate, IsShort, IsCutShort}
use Rattle.lrs_journal.proofs.Creating.{cut_blank, gate_short, short_blanked, behind_shut, blank_none, shut_none}
use Rattle.lrs_journal.proofs.builder.lay_header.Goals as goal

pub write_header-requires : goal.write_header-requires
write_header-requires g c = record {
  shut = λ f told_f.
      let from = c.in_ok-write_gate.ensures.written f (g.met.D.Disk.reads_image c.write_gate.new.disk f told_f) in
      short_blanked from.0 f (c.in_ok-shorten.ensures.short from.0 from.1) from.2;
}

pub returns-in_err-shorten-clause-any_moment : goal.returns-in_err-shorten-clause-any_moment
returns-in_err-shorten-clause-any_moment g c synced =
    let T = g.D.Disk.time in
    let S = g.D.Disk.image_since in
    let I = g.D.Disk.image in
    let cn = g.met.D.Disk.counts_now in
    let on = g.met.D.Disk.only_now in
    let P = HasNoHeader in
    let d0 = c.args.disk.now in
    let d1 = c.shorten.new.disk in
    let one = weaker_run T S I cn on d0 d1 (IsCutShort (I d0)) P c.shorten.ensures.any_moment (λ f cut. blank_none f (cut_blank cut.0 f (c.requires.blank cut.0 (synced cut.0 cut.1)) cut.2)) in
    one

pub returns-in_err-write_gate-clause-any_moment : goal.returns-in_err-write_gate-clause-any_moment
returns-in_err-write_gate-clause-any_moment g c synced =
    let T = g.D.Disk.time in
    let S = g.D.Disk.image_since in
    let I = g.D.Disk.image in
    let cn = g.met.D.Disk.counts_now in
    let on = g.met.D.Disk.only_now in
    let P = HasNoHeader in
    let d0 = c.args.disk.now in
    let d1 = c.shorten.new.disk in
    let one = weaker_run T S I cn on d0 d1 (IsCutShort (I d0)) P c.shorten.ensures.any_moment (λ f cut. blank_none f (cut_blank cut.0 f (c.requires.blank cut.0 (synced cut.0 cut.1)) cut.2)) in
    let d2 = c.write_gate.new.disk in
    let short_now : (f : List ℕ) → I d1 f → IsShort f = λ f left. c.in_ok-shorten.ensures.short f (c.in_ok-shorten.ensures.synced synced f left) in
    let two = then_run T S I cn on d0 d1 d2 P (IsAtGate 0 (I d1)) one c.write_gate.ensures.any_moment (λ f at. blank_none f (inl (gate_short at.0 f (short_now at.0 at.1) at.3))) in
    two

pub returns-clause-any_moment : goal.returns-clause-any_moment
returns-clause-any_moment g c synced =
    let T = g.D.Disk.time in
    let S = g.D.Disk.image_since in
    let I = g.D.Disk.image in
    let cn = g.met.D.Disk.counts_now in
    let on = g.met.D.Disk.only_now in
    let P = HasNoHeader in
    let d0 = c.args.disk.now in
    let d1 = c.shorten.new.disk in
    let one = weaker_run T S I cn on d0 d1 (IsCutShort (I d0)) P c.shorten.ensures.any_moment (λ f cut. blank_none f (cut_blank cut.0 f (c.requires.blank cut.0 (synced cut.0 cut.1)) cut.2)) in
    let d2 = c.write_gate.new.disk in
    let short_now : (f : List ℕ) → I d1 f → IsShort f = λ f left. c.in_ok-shorten.ensures.short f (c.in_ok-shorten.ensures.synced synced f left) in
    let two = then_run T S I cn on d0 d1 d2 P (IsAtGate 0 (I d1)) one c.write_gate.ensures.any_moment (λ f at. blank_none f (inl (gate_short at.0 f (short_now at.0 at.1) at.3))) in
    let zero_now : (f : List ℕ) → I d2 f → f ≡ 0 ∷ [] = λ f left. let from = c.in_ok-write_gate.ensures.written f left in short_blanked from.0 f (c.in_ok-shorten.ensures.short from.0 from.1) from.2 in
    let d3 = c.write_header.new.disk in
    then_run T S I cn on d0 d2 d3 P (KeepsUpTo 1 (I d2)) two c.write_header.ensures.any_moment (λ f behind.
    shut_none f (behind_shut 1 (I d2) f (omega arith) (λ e left. ap (λ (l : List ℕ). take 1 l) (zero_now e left)) behind))

pub returns-clause-shut : goal.returns-clause-shut
returns-clause-shut g c =
    let T = g.D.Disk.time in
    let S = g.D.Disk.image_since in
    let I = g.D.Disk.image in
    let cn = g.met.D.Disk.counts_now in
    let on = g.met.D.Disk.only_now in
    let d2 = c.write_gate.new.disk in
    let d3 = c.write_header.new.disk in
    let zero_now : (f : List ℕ) → I d2 f → f ≡ 0 ∷ [] = λ f left. let from = c.in_ok-write_gate.ensures.written f left in short_blanked from.0 f (c.in_ok-shorten.ensures.short from.0 from.1) from.2 in
    on_ok_weaker c.write_header.result (λ _ f left.
    behind_shut 1 (I d2) f (omega arith) (λ e was. ap (λ (l : List ℕ). take 1 l) (zero_now e was)) (now_has T S I cn on d2 d3 (KeepsUpTo 1 (I d2)) c.write_header.ensures.any_moment f left)) c.write_header.ensures.written
