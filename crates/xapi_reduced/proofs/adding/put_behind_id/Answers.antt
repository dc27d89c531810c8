use Rattle.std.proofs.Common.{codes}
use Rattle.std.proofs.lemmas.Result.{on_ok_weaker}
use Rattle.lrs_json.specs.Json.{string}
use Rattle.lrs_time.specs.Moments.{moment_text}
use Rattle.xapi_format.specs.Authorities.{account_agent, account_name}
use Rattle.xapi_format.specs.Completed.{added_last, given_or}
use Rattle.xapi_format.proofs.Appending.{two_behind}
use Rattle.xapi_reduced.proofs.adding.put_behind_id.Goals as goal

pub returns-clause-ok : goal.returns-clause-ok
returns-clause-ok c =
    let received = c.args.received.now in
    let stored = moment_text c.args.stored in
    on_ok_weaker c.put_signature.result (λ e. two_behind (codes "timestamp") (codes "stored") (given_or (codes "timestamp") received stored) (string stored)
    (added_last received (account_agent (account_name c.args.authority.now)))
    c.args.into.now.items c.put_times.new.into.items c.put_signature.new.into.items c.in_ok-put_times.ensures.ok e) c.put_signature.ensures.ok
