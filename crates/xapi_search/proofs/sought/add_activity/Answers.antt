use Rattle.std.proofs.lemmas.Result.{on_ok_weaker}
use Rattle.xapi_index.specs.XapiQueryFilters.{passes_activity}
use Rattle.xapi_search.proofs.Narrowed.{narrowed_so}
use Rattle.xapi_search.proofs.sought.add_activity.Goals as goal

pub returns-clause-narrows : goal.returns-clause-narrows
returns-clause-narrows c =
    on_ok_weaker c.add.result
    (narrowed_so c.args.index.now.held c.in_ok-key.key (passes_activity c.args.query.now) c.args.lists.now.items c.add.new.lists.items c.in_ok-key.ensures) c.add.ensures.narrows

pub returns-clause-ascending : goal.returns-clause-ascending
returns-clause-ascending c = c.add.ensures.ascending
