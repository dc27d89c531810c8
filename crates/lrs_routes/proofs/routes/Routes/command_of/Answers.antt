use Rattle.lrs_routes.proofs.OneAsked.{one_asked}
use Rattle.lrs_routes.proofs.routes.Routes.command_of.Goals as goal

pub returns-clause-alone : goal.returns-clause-alone
returns-clause-alone c other h = one_asked c.args.request c.asked-asked.result other c.asked-asked.ensures.asked h
