use Rattle.std.proofs.Common.{◌∙◌, ℕ, ap, max}
use Rattle.lrs_reads.specs.LrsHistoryHistory.{entry_at}
use Rattle.lrs_time.specs.Moments.{clamped}
use Rattle.lrs_fold.proofs.fold.Fold.next_entry.Goals as goal

pub returns : goal.returns
returns c =
    ap (λ (moment : ℕ). entry_at c.args.caller c.args.write moment c.args.draw.now)
    (c.next_moment.ensures ∙ ap (λ (last : ℕ). max (clamped c.args.clock) last) c.last_moment.ensures)
