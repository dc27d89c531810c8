use Rattle.xapi_search.proofs.Narrowed.{ascending_none, narrowed_by_all}
use Rattle.xapi_search.proofs.sought.filters_of.Goals as goal

pub returns-clause-narrows : goal.returns-clause-narrows
returns-clause-narrows c =
    narrowed_by_all c.args.index.now.held c.args.query.now c.new-lists.result.items c.add_agent.new.lists.items c.add_verb.new.lists.items c.add_activity.new.lists.items c.add_registration.new.lists.items
    c.new-lists.ensures.items c.in_ok-add_agent.ensures.narrows c.in_ok-add_verb.ensures.narrows c.in_ok-add_activity.ensures.narrows c.in_ok-add_registration.ensures.narrows

pub returns-clause-ascending : goal.returns-clause-ascending
returns-clause-ascending c =
    c.in_ok-add_registration.ensures.ascending (c.in_ok-add_activity.ensures.ascending (c.in_ok-add_verb.ensures.ascending (c.in_ok-add_agent.ensures.ascending
    (ascending_none c.new-lists.result.items c.new-lists.ensures.items))))
