use Rattle.std.proofs.lemmas.Result.{on_ok_weaker}
use Rattle.lrs_time.specs.Moments.{moment_text}
use Rattle.xapi_format.specs.Authorities.{authority_json}
use Rattle.xapi_format.specs.Completed.{added}
use Rattle.xapi_received.specs.Excerpts.{listed}
use Rattle.xapi_received.specs.Received.{ending_text, excerpts_text}
use Rattle.xapi_received.proofs.received.put_whole.Goals as goal
use Rattle.lrs_json.proofs.Pieces.{behind}

pub returns-clause-ok : goal.returns-clause-ok
returns-clause-ok c = λ received given.
    on_ok_weaker c.put_ending.result (λ e. behind c.args.into.now.items c.put.new.into.items c.put_ending.new.into.items (excerpts_text c.args.text.now (listed c.args.excerpts.now))
    (ending_text c.args.ending (added received c.args.id.now (moment_text c.args.stored) (authority_json c.args.authority.now))) c.in_ok-put.ensures.ok e) (c.put_ending.ensures.ok received given)
