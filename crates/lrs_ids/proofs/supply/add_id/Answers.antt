-- The set's own look-up is by its order.
use Rattle.std.proofs.Common.{not, ap, ◌∙◌}
use Rattle.lrs_ids.proofs.FreshLemmas.{has_id}
use Rattle.lrs_ids.proofs.MadeIds.{set-added}
use Rattle.lrs_ids.proofs.supply.add_id.Goals as goal

pub returns-clause-new : goal.returns-clause-new
returns-clause-new c = c.in_ok-insert.ensures.added ∙ ap not (has_id c.args.id c.args.ids.now.keys)

pub returns-clause-added : goal.returns-clause-added
returns-clause-added c = set-added c.args.ids.now.keys c.insert.new.self.keys c.args.id c.in_ok-insert.ensures.updates.0
