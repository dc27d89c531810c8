use Rattle.std.proofs.Common.{Option, OnOk, false, subst}
use Rattle.std.specs.Option.{option_map_or}
use Rattle.lrs_json.specs.Json.{Json}
use Rattle.xapi_query.specs.XapiStatementStatement.{holds_activity, holds_at}
use Rattle.xapi_statement_keys.specs.Adding.{Adds, activity_keys}
use Rattle.xapi_statement_keys.proofs.Growing.{adds_none}
use Rattle.xapi_statement_keys.proofs.Named.{activities_none}
use Rattle.xapi_statement_keys.proofs.activities.push_held_at.Goals as goal

pub returns-in-Some : goal.returns-in-Some
unfolding holds_at
returns-in-Some c =
    subst (λ (o : Option Json). OnOk c.push_held.result (Adds c.args.keys.now.items c.push_held.new.keys.items (activity_keys false (λ id. option_map_or (holds_activity id) o false))))
    c.in-Some.ensures c.push_held.ensures

pub returns-in-None : goal.returns-in-None
unfolding holds_at
returns-in-None c =
    let keys = c.args.keys.now.items in
    subst (λ (o : Option Json). Adds keys keys (activity_keys false (λ id. option_map_or (holds_activity id) o false))) c.in-None.ensures
    (adds_none keys (activity_keys false (λ id. false)) (activities_none false))
