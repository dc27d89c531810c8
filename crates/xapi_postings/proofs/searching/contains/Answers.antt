use Rattle.std.proofs.Common.{◌∙◌, sym}
use Rattle.xapi_postings.proofs.Searches.{found_there, not_there}
use Rattle.xapi_postings.proofs.searching.contains.Goals as goal

pub returns-in-Some : goal.returns-in-Some
returns-in-Some c =
    found_there c.args.list.now c.args.k c.count_below.result c.in-Some.found c.requires c.count_below.ensures.counted (sym c.position_at.ensures ∙ c.in-Some.is)

pub returns-in-None : goal.returns-in-None
returns-in-None c = not_there c.args.list.now c.args.k c.count_below.result c.count_below.ensures.counted (sym c.position_at.ensures ∙ c.in-None.is)
