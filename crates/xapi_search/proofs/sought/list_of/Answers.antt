use Rattle.std.proofs.Common.{length}
use Rattle.xapi_search.proofs.Narrowed.{in_posting}
use Rattle.xapi_search.proofs.sought.list_of.Goals as goal

pub returns-clause-those : goal.returns-clause-those
returns-clause-those c =
    in_posting c.args.index.now.held (length c.args.index.now.coming) c.args.key c.posting-list.result.now c.posting-list.ensures

pub returns-clause-ascending : goal.returns-clause-ascending
returns-clause-ascending c = c.posting-list.ensures.ascending
