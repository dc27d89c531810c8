use Rattle.std.proofs.Common.{◌∙◌, sym}
use Rattle.lrs_ids.proofs.FreshLemmas.{has_id}
use Rattle.lrs_ids.proofs.MadeIds.{free-other, free-used}
use Rattle.lrs_ids.proofs.supply.is_free.Goals as goal

pub returns-then-is_used : goal.returns-then-is_used
returns-then-is_used g c =
    free-used (g.U.UsedIds.used c.args.used.now) c.args.gone.now.keys c.args.word c.of_word-id.result c.of_word-id.ensures.made (sym c.is_used.ensures ∙ c.if-is_used.true)

pub returns-else-is_used : goal.returns-else-is_used
returns-else-is_used g c =
    free-other (g.U.UsedIds.used c.args.used.now) c.args.gone.now.keys c.args.word c.of_word-id.result c.contains.result c.of_word-id.ensures.made
    (sym c.is_used.ensures ∙ c.if-is_used.false) (c.contains.ensures ∙ has_id c.of_word-id.result c.args.gone.now.keys)
