use Rattle.std.proofs.Common.{◌≡◌, Bool, OnOk, ◌&&◌, true, false, sym, ap, ◌∙◌, subst}
use Rattle.lrs_json.specs.View.{view}
use Rattle.xapi_query.specs.XapiFormatParty.{is_party}
use Rattle.xapi_query.specs.XapiStatementParties.{is_party_object}
use Rattle.xapi_statement_keys.specs.Adding.{Adds, agent_keys}
use Rattle.xapi_statement_keys.proofs.Growing.{adds_none}
use Rattle.xapi_statement_keys.proofs.Named.{agents_none}
use Rattle.xapi_values.specs.Kinds.{is_party_kind, kind_of}
use Rattle.xapi_statement_keys.proofs.roles.push_party_object.Goals as goal

pub returns-then-is_party : goal.returns-then-is_party
unfolding is_party_object
returns-then-is_party c =
    let j = view c.args.object.now in
    let is : is_party_kind (kind_of j) ≡ true = sym (c.is_party.ensures ∙ ap is_party_kind c.of.ensures) ∙ c.if-is_party.true in
    subst (λ (b : Bool). OnOk c.push_party.result (Adds c.args.keys.now.items c.push_party.new.keys.items (agent_keys c.args.direct (λ ifi. b && is_party ifi j)))) (sym is) c.push_party.ensures

pub returns-else-is_party : goal.returns-else-is_party
unfolding is_party_object
returns-else-is_party c =
    let j = view c.args.object.now in
    let keys = c.args.keys.now.items in
    let isnt : is_party_kind (kind_of j) ≡ false = sym (c.is_party.ensures ∙ ap is_party_kind c.of.ensures) ∙ c.if-is_party.false in
    subst (λ (b : Bool). Adds keys keys (agent_keys c.args.direct (λ ifi. b && is_party ifi j))) (sym isnt)
    (adds_none keys (agent_keys c.args.direct (λ ifi. false)) (agents_none c.args.direct))
