use Rattle.xapi_parameters.proofs.Least.{get_filters}
use Rattle.xapi_parameters.proofs.wanted.wanted_by.Goals as goal

pub query_of-requires : goal.query_of-requires
query_of-requires c = get_filters c.args.pairs.now c.requires
