use Rattle.std.proofs.Common.{◌≡◌, Bool, OnOk, ◌&&◌, ◌||◌, true, false, sym, ◌∙◌, subst}
use Rattle.lrs_json.specs.View.{view}
use Rattle.xapi_query.specs.XapiStatementParties.{has_context_agent, has_direct_agent, nested_has_agent}
use Rattle.xapi_query.specs.XapiStatementStatement.{has_some_context_activity, is_about, nested_has_activity}
use Rattle.xapi_statement_keys.specs.Adding.{Adds, named_keys}
use Rattle.xapi_statement_keys.proofs.Growing.{adds_none}
use Rattle.xapi_statement_keys.proofs.Named.{named_none}
use Rattle.xapi_values.specs.Nested.{is_nested}
use Rattle.xapi_statement_keys.proofs.roles.push_nested.Goals as goal

pub returns-then-is_nested : goal.returns-then-is_nested
unfolding nested_has_agent nested_has_activity
returns-then-is_nested c =
    let j = view c.args.object.now in
    let is : is_nested j ≡ true = sym c.is_nested.ensures ∙ c.if-is_nested.true in
    subst (λ (b : Bool). OnOk c.push_substatement.result (Adds c.args.keys.now.items c.push_substatement.new.keys.items
    (named_keys false (λ ifi. b && (has_direct_agent ifi j || has_context_agent ifi j)) (λ id. b && (is_about id j || has_some_context_activity id j))))) (sym is) c.push_substatement.ensures

pub returns-else-is_nested : goal.returns-else-is_nested
unfolding nested_has_agent nested_has_activity
returns-else-is_nested c =
    let j = view c.args.object.now in
    let keys = c.args.keys.now.items in
    let isnt : is_nested j ≡ false = sym c.is_nested.ensures ∙ c.if-is_nested.false in
    subst (λ (b : Bool). Adds keys keys (named_keys false (λ ifi. b && (has_direct_agent ifi j || has_context_agent ifi j)) (λ id. b && (is_about id j || has_some_context_activity id j)))) (sym isnt)
    (adds_none keys (named_keys false (λ ifi. false) (λ id. false)) (named_none false))
