use Rattle.std.proofs.Common.{Option, OnOk, false, subst}
use Rattle.lrs_json.specs.Json.{Json}
use Rattle.xapi_query.specs.XapiStatementStatement.{context_holds}
use Rattle.xapi_statement_keys.specs.Adding.{Adds, activity_keys}
use Rattle.xapi_statement_keys.proofs.Growing.{adds_none}
use Rattle.xapi_statement_keys.proofs.Named.{activities_none, held_in}
use Rattle.xapi_statement_keys.proofs.activities.push_context_activities.Goals as goal

pub returns-in-Some : goal.returns-in-Some
unfolding context_holds
returns-in-Some c =
    subst (λ (o : Option Json). OnOk c.push_all_four.result (Adds c.args.keys.now.items c.push_all_four.new.keys.items (activity_keys false (λ id. held_in id o))))
    c.in-Some.ensures c.push_all_four.ensures

pub returns-in-None : goal.returns-in-None
unfolding context_holds
returns-in-None c =
    let keys = c.args.keys.now.items in
    subst (λ (o : Option Json). Adds keys keys (activity_keys false (λ id. held_in id o))) c.in-None.ensures
    (adds_none keys (activity_keys false (λ id. false)) (activities_none false))
