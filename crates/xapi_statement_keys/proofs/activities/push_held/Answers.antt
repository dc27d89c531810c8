-- The activities of an array, or the one that it is.
use Rattle.std.proofs.Common.{◌||◌, false, sym, subst}
use Rattle.std.proofs.lemmas.Result.{on_ok_weaker}
use Rattle.lrs_json.specs.Json.{Elements}
use Rattle.lrs_json.specs.View.{view}
use Rattle.lrs_json.specs.Parts.{items_of}
use Rattle.xapi_query.specs.XapiStatementStatement.{any_activity_of, holds_activity, is_activity_of}
use Rattle.xapi_statement_keys.specs.Adding.{Adds, activity_keys}
use Rattle.xapi_statement_keys.proofs.Growing.{adds_same}
use Rattle.xapi_statement_keys.proofs.Named.{activities_same, held_is, more_activities}
use Rattle.xapi_statement_keys.proofs.activities.push_held.Goals as goal

pub returns : goal.returns
returns c =
    let j = view c.args.held.now in
    let old = c.args.keys.now.items in
    let mid = c.push_each_activity.new.keys.items in
    let new = c.push_activity.new.keys.items in
    let items : Adds old mid (activity_keys false (λ id. any_activity_of id (items_of j))) =
    subst (λ (js : Elements). Adds old mid (activity_keys false (λ id. any_activity_of id js))) c.items_in.ensures c.in_ok-push_each_activity.ensures in
    on_ok_weaker c.push_activity.result
    (λ adds. adds_same old new (activity_keys false (λ id. any_activity_of id (items_of j) || is_activity_of id j)) (activity_keys false (λ id. holds_activity id j))
    (activities_same false (λ id. any_activity_of id (items_of j) || is_activity_of id j) (λ id. holds_activity id j) (λ id. sym (held_is j id)))
    (more_activities false (λ id. any_activity_of id (items_of j)) (λ id. is_activity_of id j) old mid new items adds))
    c.push_activity.ensures
