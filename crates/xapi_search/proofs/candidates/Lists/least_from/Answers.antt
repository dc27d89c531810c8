use Rattle.xapi_search.proofs.Nearest.{both_ascend, least_of_all, least_of_both}
use Rattle.xapi_search.proofs.candidates.Lists.least_from.Goals as goal

pub first_from-first-requires : goal.first_from-first-requires
first_from-first-requires c = (both_ascend c.in-Either.a c.in-Either.b c.args.self c.in-Either.is c.requires).0

pub first_from-second-requires : goal.first_from-second-requires
first_from-second-requires c = (both_ascend c.in-Either.a c.in-Either.b c.args.self c.in-Either.is c.requires).1

pub returns-in-Each : goal.returns-in-Each
returns-in-Each c = least_of_all c.args.self c.args.start c.in-Each.is

pub returns-in-Either : goal.returns-in-Either
returns-in-Either c =
    least_of_both c.in-Either.a c.in-Either.b c.args.self c.args.start c.first_from-first.result c.first_from-second.result c.lesser.result c.in-Either.is c.lesser.ensures
    c.first_from-first.ensures c.first_from-second.ensures
