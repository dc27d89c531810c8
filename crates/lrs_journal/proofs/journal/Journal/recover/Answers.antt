use Rattle.std.proofs.Common.{◌∙◌, sym, subst}
use Rattle.lrs_journal.specs.Store.{HasHeaderIn}
use Rattle.lrs_journal.specs.declared.sizes.Format.{Format}
use Rattle.lrs_journal.proofs.journal.Journal.recover.Goals as goal

pub returns-in-One-clause-old_format : goal.returns-in-One-clause-old_format
returns-in-One-clause-old_format g c _ x told_x =
    let limit = c.in-Ok.replay.limit in
    (limit, subst (λ (f : Format). HasHeaderIn f x limit) (sym c.format.ensures ∙ c.in-One.is) (c.in-Ok.ensures.opened x told_x).0)
