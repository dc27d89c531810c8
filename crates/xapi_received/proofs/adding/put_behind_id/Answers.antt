use Rattle.std.proofs.Common.{codes}
use Rattle.std.proofs.lemmas.Result.{on_ok_weaker}
use Rattle.lrs_json.specs.Json.{string}
use Rattle.lrs_time.specs.Moments.{moment_text}
use Rattle.xapi_format.specs.Authorities.{authority_json}
use Rattle.xapi_format.specs.Completed.{added_last, given_or}
use Rattle.xapi_format.proofs.Appending.{two_behind}
use Rattle.xapi_received.proofs.adding.put_behind_id.Goals as goal

pub put_times-requires : goal.put_times-requires
put_times-requires c = c.requires.0

pub put_signature-requires : goal.put_signature-requires
put_signature-requires c = c.requires.1

pub returns-clause-ok : goal.returns-clause-ok
returns-clause-ok c = λ received given.
    let stored = moment_text c.args.stored in
    on_ok_weaker c.put_signature.result (λ e. two_behind (codes "timestamp") (codes "stored") (given_or (codes "timestamp") received stored) (string stored) (added_last received (authority_json c.args.authority.now))
    c.args.into.now.items c.put_times.new.into.items c.put_signature.new.into.items (c.in_ok-put_times.ensures.ok received given.0) e) (c.put_signature.ensures.ok received given.1)
