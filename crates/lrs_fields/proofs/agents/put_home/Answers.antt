use Rattle.std.proofs.Common.{ap, codes, true, false, ◌++◌, ◌∙◌}
use Rattle.std.proofs.lemmas.Result.{on_ok_weaker}
use Rattle.lrs_json.specs.Json.{string}
use Rattle.lrs_json.specs.Texts.{member_text}
use Rattle.lrs_fields.proofs.Joined.{two_members}
use Rattle.lrs_fields.proofs.Kept.{over_four, over_three, over_two}
use Rattle.lrs_fields.proofs.agents.put_home.Goals as goal

pub returns-in_err-put_text-clause-kept : goal.returns-in_err-put_text-clause-kept
returns-in_err-put_text-clause-kept c = over_two _ _ _ c.put.ensures.kept c.put_text.ensures.kept

pub returns-in_err-put_text-2-clause-kept : goal.returns-in_err-put_text-2-clause-kept
returns-in_err-put_text-2-clause-kept c = over_three _ _ _ _ c.put.ensures.kept c.put_text.ensures.kept c.put_text-2.ensures.kept

pub returns-clause-kept : goal.returns-clause-kept
returns-clause-kept c = over_four _ _ _ _ _ c.put.ensures.kept c.put_text.ensures.kept c.put_text-2.ensures.kept c.put-2.ensures.kept

pub returns-clause-ok : goal.returns-clause-ok
returns-clause-ok c =
    let first = c.in_ok-put_text.ensures.ok ∙ ap (λ t. c.put.new.into.items ++ member_text false (codes "homePage") (string t)) c.as_str.ensures.lent in
    let second = c.in_ok-put_text-2.ensures.ok ∙ ap (λ t. c.put_text.new.into.items ++ member_text true (codes "name") (string t)) c.as_str-2.ensures.lent in
    on_ok_weaker c.put-2.result (λ closed. two_members _ _ _ _ _ _ _ c.in_ok-put.ensures.ok first second closed) c.put-2.ensures.ok
