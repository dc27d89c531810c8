-- By cases on the key.
use Rattle.std.proofs.Common.{◌||◌}
use Rattle.std.proofs.lemmas.Result.{on_ok_weaker}
use Rattle.lrs_json.specs.View.{view}
use Rattle.xapi_query.specs.XapiRulesRules.{is_voiding}
use Rattle.xapi_query.specs.XapiStatementStatement.{target_of}
use Rattle.xapi_statement_keys.specs.Adding.{authority_keys, own_keys, role_keys, reference_keys}
use Rattle.xapi_statement_keys.specs.Keys.{has_key}
use Rattle.xapi_statement_keys.proofs.Growing.{adds_three}
use Rattle.xapi_statement_keys.proofs.Whole.{whole_split}
use Rattle.xapi_statement_keys.proofs.keys.push_keys.Goals as goal

pub returns : goal.returns
returns c =
    let s = c.args.statement.now in
    let j = view s.received in
    on_ok_weaker c.push_references.result
    (λ adds. adds_three c.args.keys.now.items c.push_own.new.keys.items c.push_named.new.keys.items c.push_references.new.keys.items
    (own_keys s) (λ k. role_keys j k || authority_keys s.authority k) (reference_keys (is_voiding j) (target_of j))
    (λ k. has_key k s) (whole_split s) c.in_ok-push_own.ensures c.in_ok-push_named.ensures adds)
    c.push_references.ensures
