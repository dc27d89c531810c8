use Rattle.std.proofs.Common.{sym, ap, ◌∙◌, rules, arith}
use Rattle.std.proofs.lemmas.Grind.{common_steps}
use Rattle.lrs_json.specs.View.{member_view}
use Rattle.xapi_docs.specs.Merging.{with_member}
use Rattle.xapi_docs.proofs.NameIndices.{seen, seen_push}
use Rattle.xapi_docs.proofs.merging.put_members.Goals as goal

pub loop-member-preserved : goal.loop-member-preserved
loop-member-preserved c =
    let m = c.in-Some.member in (
      c.in_ok-put_member.ensures.put ∙ ap (with_member (member_view m).0 (member_view m).1) c.loop-member.invariant.0 ∙ sym (seen_push (seen c.args.held.now.items) c.loop-member.yielded m),
      c.in_ok-put_member.ensures.indices,
      first_of (search rules, grind (arith, common_steps)),
    )
