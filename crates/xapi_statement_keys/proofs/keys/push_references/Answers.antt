use Rattle.std.proofs.Common.{ℕ, List, Bool, Option, Some, None, OnOk, subst}
use Rattle.lrs_json.specs.View.{view}
use Rattle.xapi_query.specs.XapiRulesRules.{is_voiding}
use Rattle.xapi_statement_keys.specs.Adding.{Adds, reference_keys}
use Rattle.xapi_statement_keys.proofs.Growing.{adds_none}
use Rattle.xapi_statement_keys.proofs.Whole.{no_reference}
use Rattle.xapi_statement_keys.proofs.keys.push_references.Goals as goal

pub returns-in-Some : goal.returns-in-Some
returns-in-Some c =
    let j = view c.args.statement.now.received in
    let old = c.args.keys.now.items in
    let new = c.push_target.new.keys.items in
    subst (λ (o : Option (List ℕ)). OnOk c.push_target.result (Adds old new (reference_keys (is_voiding j) o))) c.in-Some.ensures
    (subst (λ (b : Bool). OnOk c.push_target.result (Adds old new (reference_keys b (Some c.in-Some.id)))) c.is_voiding.ensures c.push_target.ensures)

pub returns-in-None : goal.returns-in-None
returns-in-None c =
    let j = view c.args.statement.now.received in
    let keys = c.args.keys.now.items in
    subst (λ (o : Option (List ℕ)). Adds keys keys (reference_keys (is_voiding j) o)) c.in-None.ensures (adds_none keys (reference_keys (is_voiding j) None) (no_reference (is_voiding j)))
