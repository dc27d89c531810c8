use Rattle.xapi_search.proofs.Nearest.{both_ascend, greatest_of_all, greatest_of_both}
use Rattle.xapi_search.proofs.candidates.Lists.greatest_below.Goals as goal

pub last_below-first-requires : goal.last_below-first-requires
last_below-first-requires c = (both_ascend c.in-Either.a c.in-Either.b c.args.self c.in-Either.is c.requires).0

pub last_below-second-requires : goal.last_below-second-requires
last_below-second-requires c = (both_ascend c.in-Either.a c.in-Either.b c.args.self c.in-Either.is c.requires).1

pub returns-in-Each : goal.returns-in-Each
returns-in-Each c = greatest_of_all c.args.self c.args.end c.checked_sub.result c.in-Each.is c.checked_sub.ensures

pub returns-in-Either : goal.returns-in-Either
returns-in-Either c =
    greatest_of_both c.in-Either.a c.in-Either.b c.args.self c.args.end c.last_below-first.result c.last_below-second.result c.greater.result c.in-Either.is c.greater.ensures
    c.last_below-first.ensures c.last_below-second.ensures
