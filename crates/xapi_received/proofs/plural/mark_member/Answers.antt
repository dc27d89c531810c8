use Rattle.std.proofs.lemmas.Result.{on_ok_weaker}
use Rattle.lrs_json.specs.View.{view}
use Rattle.xapi_received.proofs.Memberwise.{member_marked}
use Rattle.xapi_received.proofs.plural.mark_member.Goals as goal

pub returns : goal.returns
returns g c =
    on_ok_weaker c.mark.result (λ n. member_marked g.P.Plural.change c.args.later c.args.member.now.name c.as_str-name.result.now (view c.args.member.now.value) c.args.draft.now c.put_name.new.self c.mark.new.draft
    c.as_str-name.ensures.lent c.as_str-name.ensures.utf8 c.in_ok-put_name.ensures n) c.mark.ensures
