use Rattle.std.proofs.Common.{codes}
use Rattle.std.proofs.lemmas.Result.{on_ok_weaker}
use Rattle.lrs_json.specs.Json.{string}
use Rattle.lrs_names.specs.Ids.{id_text}
use Rattle.lrs_time.specs.Moments.{moment_text}
use Rattle.xapi_format.specs.Authorities.{account_agent, account_name}
use Rattle.xapi_format.specs.Completed.{added_behind_id}
use Rattle.xapi_format.proofs.Appending.{member_behind}
use Rattle.xapi_reduced.proofs.adding.put_added.Goals as goal

pub returns-clause-ok : goal.returns-clause-ok
returns-clause-ok c =
    on_ok_weaker c.put_behind_id.result (λ e. member_behind c.args.later (codes "id") (string (id_text c.args.id.now))
    (added_behind_id c.args.received.now (moment_text c.args.stored) (account_agent (account_name c.args.authority.now)))
    c.args.into.now.items c.put_id.new.into.items c.put_behind_id.new.into.items c.in_ok-put_id.ensures.ok e) c.put_behind_id.ensures.ok
