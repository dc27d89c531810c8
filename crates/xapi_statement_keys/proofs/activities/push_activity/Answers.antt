use Rattle.std.proofs.Common.{ℕ, List, Option, OnOk, false, sym, subst}
use Rattle.std.proofs.lemmas.Result.{on_ok_weaker}
use Rattle.lrs_json.specs.View.{view}
use Rattle.xapi_query.specs.XapiStatementStatement.{activity_in, is_activity_of}
use Rattle.xapi_statement_keys.specs.Adding.{Adds, activity_keys}
use Rattle.xapi_statement_keys.proofs.Growing.{adds_none, adds_same}
use Rattle.xapi_statement_keys.proofs.Named.{activities_none, activities_same, activity_word, is_id_in}
use Rattle.xapi_statement_keys.proofs.activities.push_activity.Goals as goal

pub returns-in-Some : goal.returns-in-Some
returns-in-Some c =
    let direct = c.args.direct in
    let j = view c.args.tree.now in
    let old = c.args.keys.now.items in
    let new = c.push_id.new.keys.items in
    on_ok_weaker c.push_id.result
    (λ adds. adds_same old new (activity_keys direct (λ id. is_id_in (activity_in j) id)) (activity_keys direct (λ id. is_activity_of id j))
    (activities_same direct (λ id. is_id_in (activity_in j) id) (λ id. is_activity_of id j) (λ id. sym (activity_word j id))) adds)
    (subst (λ (o : Option (List ℕ)). OnOk c.push_id.result (Adds old new (activity_keys direct (λ id. is_id_in o id)))) c.in-Some.ensures c.push_id.ensures)

pub returns-in-None : goal.returns-in-None
returns-in-None c =
    let direct = c.args.direct in
    let j = view c.args.tree.now in
    let keys = c.args.keys.now.items in
    adds_same keys keys (activity_keys direct (λ id. is_id_in (activity_in j) id)) (activity_keys direct (λ id. is_activity_of id j))
    (activities_same direct (λ id. is_id_in (activity_in j) id) (λ id. is_activity_of id j) (λ id. sym (activity_word j id)))
    (subst (λ (o : Option (List ℕ)). Adds keys keys (activity_keys direct (λ id. is_id_in o id))) c.in-None.ensures
    (adds_none keys (activity_keys direct (λ id. false)) (activities_none direct)))
