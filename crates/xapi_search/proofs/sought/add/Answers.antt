use Rattle.xapi_search.proofs.Narrowed.{ascending_more, narrowed, not_narrowed}
use Rattle.xapi_search.proofs.sought.add.Goals as goal

pub returns-in_ok-push-in-Some-clause-narrows : goal.returns-in_ok-push-in-Some-clause-narrows
returns-in_ok-push-in-Some-clause-narrows c =
    narrowed c.args.index.now.held c.args.key c.in-Some.key c.args.lists.now.items c.push.new.self.items c.list_of.result c.in-Some.is c.in_ok-push-in-Some.ensures.items c.list_of.ensures.those

pub returns-in_ok-push-in-Some-clause-ascending : goal.returns-in_ok-push-in-Some-clause-ascending
returns-in_ok-push-in-Some-clause-ascending c =
    ascending_more c.args.lists.now.items c.push.new.self.items c.list_of.result c.in_ok-push-in-Some.ensures.items c.list_of.ensures.ascending

pub returns-in-None-clause-narrows : goal.returns-in-None-clause-narrows
returns-in-None-clause-narrows c = not_narrowed c.args.index.now.held c.args.key c.args.lists.now.items c.in-None.is

pub returns-in-None-clause-ascending : goal.returns-in-None-clause-ascending
returns-in-None-clause-ascending c = λ each. each
