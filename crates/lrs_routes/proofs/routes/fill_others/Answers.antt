use Rattle.std.proofs.Common.{codes}
use Rattle.matchit.proofs.OnLiterals.{matchit_on_literals}
use Rattle.matchit.specs.Route.{parse_route}
use Rattle.lrs_routes.specs.Table.{desk_routes, patterns_of}
use Rattle.lrs_routes.specs.declared.table.Route.TheVariants as route
use Rattle.lrs_routes.proofs.Filling.{one_more}
use Rattle.lrs_routes.proofs.routes.fill_others.Goals as goal

pub returns : goal.returns
unfolding matchit_on_literals
returns c =
    let one = one_more (parse_route (codes "/fetch/{key}")) route.Fetch c.args.router.now c.insert.new.self (patterns_of desk_routes) c.in_ok-insert.ensures c.requires in
    let two = one_more (parse_route (codes "/xapi/about")) route.About c.insert.new.self c.insert-2.new.self _ c.in_ok-insert-2.ensures one in
    let three = one_more (parse_route (codes "/xapi/activities/profile")) route.ActivityProfiles c.insert-2.new.self c.insert-3.new.self _ c.in_ok-insert-3.ensures two in
    let four = one_more (parse_route (codes "/xapi/activities/state")) route.States c.insert-3.new.self c.insert-4.new.self _ c.in_ok-insert-4.ensures three in
    let five = one_more (parse_route (codes "/xapi/agents/profile")) route.AgentProfiles c.insert-4.new.self c.insert-5.new.self _ c.in_ok-insert-5.ensures four in
    let six = one_more (parse_route (codes "/xapi/statements")) route.Statements c.insert-5.new.self c.insert-6.new.self _ c.in_ok-insert-6.ensures five in
    one_more (parse_route (codes "/xapi/statements/more")) route.MoreStatements c.insert-6.new.self c.insert-7.new.self _ c.in_ok-insert-7.ensures six
