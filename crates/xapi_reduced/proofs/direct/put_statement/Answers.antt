use Rattle.std.proofs.lemmas.Result.{on_ok_weaker}
use Rattle.lrs_time.specs.Moments.{moment_text}
use Rattle.xapi_format.specs.Authorities.{account_agent, account_name}
use Rattle.xapi_format.specs.Completed.{added}
use Rattle.xapi_reduced.specs.Direct.{direct_before}
use Rattle.xapi_reduced.proofs.Fusing.{object_whole}
use Rattle.xapi_reduced.proofs.direct.put_statement.Goals as goal

pub returns-clause-ok : goal.returns-clause-ok
returns-clause-ok c =
    let more = added c.args.received.now c.args.id.now (moment_text c.args.stored) (account_agent (account_name c.args.authority.now)) in
    let all = direct_before c.args.members more in
    on_ok_weaker c.put_added.result
    (λ e. object_whole all more c.in_ok-later.later c.args.into.now.items c.put.new.into.items c.put_kept.new.into.items c.put_added.new.into.items c.in_ok-put.ensures.ok (c.in_ok-later.ensures.ok more) e)
    c.put_added.ensures.ok
