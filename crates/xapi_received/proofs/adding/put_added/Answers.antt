use Rattle.std.proofs.Common.{codes}
use Rattle.std.proofs.lemmas.Result.{on_ok_weaker}
use Rattle.lrs_json.specs.Json.{string}
use Rattle.xapi_format.specs.LrsNamesIds.{id_text}
use Rattle.lrs_time.specs.Moments.{moment_text}
use Rattle.xapi_format.specs.Authorities.{authority_json}
use Rattle.xapi_format.specs.Completed.{added_behind_id}
use Rattle.xapi_format.proofs.Appending.{member_behind}
use Rattle.xapi_received.proofs.adding.put_added.Goals as goal

pub returns-clause-ok : goal.returns-clause-ok
returns-clause-ok c = λ received given.
    on_ok_weaker c.put_behind_id.result (λ e. member_behind c.args.ending.now.later (codes "id") (string (id_text c.args.id.now)) (added_behind_id received (moment_text c.args.stored) (authority_json c.args.authority.now))
    c.args.into.now.items c.put_id.new.into.items c.put_behind_id.new.into.items c.in_ok-put_id.ensures.ok e) (c.put_behind_id.ensures.ok received given)
