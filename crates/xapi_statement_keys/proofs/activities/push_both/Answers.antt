use Rattle.std.proofs.Common.{false}
use Rattle.std.proofs.lemmas.Result.{on_ok_weaker}
use Rattle.lrs_json.specs.View.{view}
use Rattle.xapi_query.specs.XapiStatementStatement.{holds_at}
use Rattle.xapi_statement_keys.proofs.Named.{more_activities}
use Rattle.xapi_statement_keys.proofs.activities.push_both.Goals as goal

pub returns : goal.returns
returns c =
    let j = view c.args.activities.now in
    on_ok_weaker c.push_held_at-2.result
    (λ adds. more_activities false (λ id. holds_at c.args.first.now id j) (λ id. holds_at c.args.second.now id j)
    c.args.keys.now.items c.push_held_at.new.keys.items c.push_held_at-2.new.keys.items c.in_ok-push_held_at.ensures adds)
    c.push_held_at-2.ensures
