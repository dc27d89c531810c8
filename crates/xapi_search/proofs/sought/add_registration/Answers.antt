use Rattle.std.proofs.lemmas.Result.{on_ok_weaker}
use Rattle.xapi_index.specs.XapiQueryFilters.{passes_registration}
use Rattle.xapi_search.proofs.Narrowed.{narrowed_so}
use Rattle.xapi_search.proofs.sought.add_registration.Goals as goal

pub returns-clause-narrows : goal.returns-clause-narrows
returns-clause-narrows c =
    on_ok_weaker c.add.result
    (narrowed_so c.args.index.now.held c.registration_asked-key.result (passes_registration c.args.query.now) c.args.lists.now.items c.add.new.lists.items c.registration_asked-key.ensures) c.add.ensures.narrows

pub returns-clause-ascending : goal.returns-clause-ascending
returns-clause-ascending c = c.add.ensures.ascending
