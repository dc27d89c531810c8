use Rattle.std.proofs.Common.{◌≡◌, ◌++◌, ap, sym, ◌∙◌}
use Rattle.std.proofs.lemmas.Result.{on_ok_weaker}
use Rattle.lrs_json.specs.Json.{object}
use Rattle.lrs_json.specs.Written.{written}
use Rattle.lrs_time.specs.Moments.{moment_text}
use Rattle.xapi_format.specs.Authorities.{account_agent, account_name, authority_json}
use Rattle.xapi_format.specs.Completed.{added, completed}
use Rattle.xapi_reduced.specs.Direct.{direct_before}
use Rattle.xapi_reduced.specs.Reduced.{reduced}
use Rattle.xapi_reduced.proofs.Fusing.{whole_fused}
use Rattle.xapi_reduced.proofs.Unchanged.{not_completed}
use Rattle.xapi_reduced.proofs.direct.put_reduced.Goals as goal

pub returns-in-Some-clause-ok : goal.returns-in-Some-clause-ok
returns-in-Some-clause-ok c =
    let old = c.args.into.now.items in
    let id = c.args.id.now in
    let stored = moment_text c.args.stored in
    let authority = c.args.authority.now in
    let ms = c.in-Some.members in
    let seen : c.args.received.now ≡ object ms = c.in-Some.ensures in
    on_ok_weaker c.put_statement.result
    (λ e. e ∙ ap (λ j. old ++ written (object (direct_before ms (added j id stored (account_agent (account_name authority)))))) seen
    ∙ ap (λ j. old ++ written j) (whole_fused ms id stored authority)
    ∙ ap (λ j. old ++ written (reduced (completed j id stored (authority_json authority)))) (sym seen)) c.put_statement.ensures.ok

pub returns-in-None-clause-ok : goal.returns-in-None-clause-ok
returns-in-None-clause-ok c =
    let old = c.args.into.now.items in
    on_ok_weaker c.put.result
    (λ e. e ∙ ap (λ j. old ++ written j) (sym (not_completed c.args.received.now c.args.id.now (moment_text c.args.stored) (authority_json c.args.authority.now) c.in-None.ensures))) c.put.ensures.ok
