use Rattle.std.proofs.Common.{◌∙◌}
use Rattle.xapi_pages.proofs.searching.page_seen.Goals as goal

pub page_within-requires-clause-all : goal.page_within-requires-clause-all
page_within-requires-clause-all c = λ k lt seen chain. c.lists_seen-lists.ensures.stands k ∙ seen
