use Rattle.std.proofs.lemmas.Result.{on_ok_weaker}
use Rattle.lrs_json.specs.View.{view}
use Rattle.xapi_format.specs.Completed.{plural_member}
use Rattle.xapi_received.proofs.Keeping.{kept_marked}
use Rattle.xapi_received.proofs.marking.mark_kept.Goals as goal

pub returns : goal.returns
returns c =
    let name = c.args.part.now.name in
    let json = view c.args.part.now.value in
    on_ok_weaker c.mark_member.result
    (λ n ordered. kept_marked c.args.stands c.args.later name json (plural_member name json) c.args.draft.now c.mark_comma.new.draft c.mark_member.new.draft (c.in_ok-mark_comma.ensures ordered) n) c.mark_member.ensures
