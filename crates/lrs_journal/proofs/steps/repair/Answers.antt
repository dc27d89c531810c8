use Rattle.std.proofs.Common.{◌∙◌, ◌≤◌, ℕ, List, length, sym}
use Rattle.std.proofs.lemmas.Result.{on_ok_weaker}
use Rattle.lrs_disk.proofs.Moments.{started, goes_on, stayed}
use Rattle.lrs_journal.specs.Steps.{GivesBytes, IsCutBack}
use Rattle.lrs_journal.proofs.Cutting.{uncut, torn_cut, torn_end, closed_end}
use Rattle.lrs_journal.proofs.Told.{before}
use Rattle.lrs_journal.proofs.steps.repair.Goals as goal

pub returns-in_err-cut-clause-any_moment : goal.returns-in_err-cut-clause-any_moment
returns-in_err-cut-clause-any_moment g c =
    let T = g.D.Disk.time in
    let S = g.D.Disk.image_since in
    let I = g.D.Disk.image in
    let cn = g.met.D.Disk.counts_now in
    let on = g.met.D.Disk.only_now in
    let offset = c.args.offset in
    let d0 = c.args.disk.now in
    let P = IsCutBack offset (I d0) in
    let long : (f : List ℕ) → I d0 f → offset ≤ length f = λ f left. c.requires.offset f (c.requires.fixed f left) in
    let at_start = started T S I cn on d0 P (λ f left. uncut offset (I d0) f left (long f left)) in
    goes_on T S I cn on d0 d0 c.cut.new.self P at_start c.cut.ensures.time (λ f left. let from = c.cut.ensures.crash f left in torn_cut offset (I d0) from.0 f from.1 (long from.0 from.1) from.2)

pub returns-in_err-sync-clause-any_moment : goal.returns-in_err-sync-clause-any_moment
returns-in_err-sync-clause-any_moment g c =
    let T = g.D.Disk.time in
    let S = g.D.Disk.image_since in
    let I = g.D.Disk.image in
    let cn = g.met.D.Disk.counts_now in
    let on = g.met.D.Disk.only_now in
    let offset = c.args.offset in
    let d0 = c.args.disk.now in
    let P = IsCutBack offset (I d0) in
    let long : (f : List ℕ) → I d0 f → offset ≤ length f = λ f left. c.requires.offset f (c.requires.fixed f left) in
    let at_start = started T S I cn on d0 P (λ f left. uncut offset (I d0) f left (long f left)) in
    let cut = goes_on T S I cn on d0 d0 c.cut.new.self P at_start c.cut.ensures.time (λ f left. let from = c.cut.ensures.crash f left in torn_cut offset (I d0) from.0 f from.1 (long from.0 from.1) from.2) in
    stayed T S I cn on d0 c.cut.new.self c.sync.new.self P cut c.sync.ensures.time c.sync.ensures.crash

pub returns-in_err-write_at-clause-any_moment : goal.returns-in_err-write_at-clause-any_moment
returns-in_err-write_at-clause-any_moment g c =
    let T = g.D.Disk.time in
    let S = g.D.Disk.image_since in
    let I = g.D.Disk.image in
    let cn = g.met.D.Disk.counts_now in
    let on = g.met.D.Disk.only_now in
    let offset = c.args.offset in
    let d0 = c.args.disk.now in
    let P = IsCutBack offset (I d0) in
    let long : (f : List ℕ) → I d0 f → offset ≤ length f = λ f left. c.requires.offset f (c.requires.fixed f left) in
    let at_start = started T S I cn on d0 P (λ f left. uncut offset (I d0) f left (long f left)) in
    let cut = goes_on T S I cn on d0 d0 c.cut.new.self P at_start c.cut.ensures.time (λ f left. let from = c.cut.ensures.crash f left in torn_cut offset (I d0) from.0 f from.1 (long from.0 from.1) from.2) in
    let kept = stayed T S I cn on d0 c.cut.new.self c.sync.new.self P cut c.sync.ensures.time c.sync.ensures.crash in
    goes_on T S I cn on d0 c.sync.new.self c.write_at.new.self P kept c.write_at.ensures.time (λ f left.
    let torn = c.write_at.ensures.crash f left in
    let from = before _ _ _ torn.0 c.in_ok-cut.ensures.cut (sym c.sync.ensures.still ∙ c.in_ok-sync.ensures.durable torn.0 torn.1) in
    torn_end offset (I d0) from.0 torn.0 f (g.met.D.Disk.reads_image d0 from.0 from.1) (c.requires.offset from.0 from.1) from.2 torn.2)

pub returns-clause-any_moment : goal.returns-clause-any_moment
returns-clause-any_moment g c =
    let T = g.D.Disk.time in
    let S = g.D.Disk.image_since in
    let I = g.D.Disk.image in
    let cn = g.met.D.Disk.counts_now in
    let on = g.met.D.Disk.only_now in
    let offset = c.args.offset in
    let d0 = c.args.disk.now in
    let P = IsCutBack offset (I d0) in
    let long : (f : List ℕ) → I d0 f → offset ≤ length f = λ f left. c.requires.offset f (c.requires.fixed f left) in
    let at_start = started T S I cn on d0 P (λ f left. uncut offset (I d0) f left (long f left)) in
    let cut = goes_on T S I cn on d0 d0 c.cut.new.self P at_start c.cut.ensures.time (λ f left. let from = c.cut.ensures.crash f left in torn_cut offset (I d0) from.0 f from.1 (long from.0 from.1) from.2) in
    let kept = stayed T S I cn on d0 c.cut.new.self c.sync.new.self P cut c.sync.ensures.time c.sync.ensures.crash in
    let wrote = goes_on T S I cn on d0 c.sync.new.self c.write_at.new.self P kept c.write_at.ensures.time (λ f left.
    let torn = c.write_at.ensures.crash f left in
    let from = before _ _ _ torn.0 c.in_ok-cut.ensures.cut (sym c.sync.ensures.still ∙ c.in_ok-sync.ensures.durable torn.0 torn.1) in
    torn_end offset (I d0) from.0 torn.0 f (g.met.D.Disk.reads_image d0 from.0 from.1) (c.requires.offset from.0 from.1) from.2 torn.2) in
    stayed T S I cn on d0 c.write_at.new.self c.sync-2.new.self P wrote c.sync-2.ensures.time c.sync-2.ensures.crash

pub returns-clause-closed : goal.returns-clause-closed
returns-clause-closed g c =
    on_ok_weaker c.sync-2.result (λ d f left.
    let after = before _ _ _ f c.in_ok-write_at.ensures.written (sym c.sync-2.ensures.still ∙ d f left) in
    let from = before _ _ _ after.0 c.in_ok-cut.ensures.cut (sym c.sync.ensures.still ∙ after.1) in
    closed_end c.args.offset (GivesBytes g.D.Disk.told c.args.disk.now) from.0 after.0 f from.1 (c.requires.offset from.0 from.1) from.2 after.2) c.sync-2.ensures.durable
