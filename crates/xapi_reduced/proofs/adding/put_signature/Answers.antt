use Rattle.std.proofs.Common.{[], ◌∷◌, true, codes}
use Rattle.std.proofs.lemmas.Result.{on_ok_weaker}
use Rattle.lrs_json.specs.View.{members_of}
use Rattle.xapi_format.specs.Authorities.{account_agent, account_name}
use Rattle.xapi_format.specs.Completed.{given_or}
use Rattle.xapi_format.proofs.Appending.{member_behind}
use Rattle.xapi_reduced.proofs.adding.put_signature.Goals as goal

pub returns-clause-ok : goal.returns-clause-ok
returns-clause-ok c =
    on_ok_weaker c.put_version.result (λ e. member_behind true (codes "authority") (account_agent (account_name c.args.authority.now))
    (members_of ((codes "version", given_or (codes "version") c.args.received.now (codes "1.0.0")) ∷ []))
    c.args.into.now.items c.put_reduced.new.into.items c.put_version.new.into.items c.in_ok-put_reduced.ensures.ok e) c.put_version.ensures.ok
