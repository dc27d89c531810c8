use Rattle.std.proofs.Common.{ap, codes, true, false, ◌++◌, ◌∙◌}
use Rattle.std.proofs.lemmas.Result.{on_ok_weaker}
use Rattle.lrs_json.specs.Json.{string}
use Rattle.lrs_json.specs.Texts.{member_text}
use Rattle.lrs_fields.proofs.Kept.{over_two, over_three, over_four, over_five}
use Rattle.lrs_fields.proofs.Words.{IsUtf8-draw_text}
use Rattle.lrs_record.specs.Entries.{heading_text, opening_text}
use Rattle.lrs_record.proofs.Joined.{headed}
use Rattle.lrs_record.proofs.writing.put_heading.Goals as goal

pub returns-in_err-put_text-clause-kept : goal.returns-in_err-put_text-clause-kept
returns-in_err-put_text-clause-kept c = over_two _ _ _ c.put.ensures.kept c.put_text.ensures.kept

pub returns-in_err-put_moment-clause-kept : goal.returns-in_err-put_moment-clause-kept
returns-in_err-put_moment-clause-kept c = over_three _ _ _ _ c.put.ensures.kept c.put_text.ensures.kept c.put_moment.ensures.kept

pub returns-in_err-put_text-2-clause-kept : goal.returns-in_err-put_text-2-clause-kept
returns-in_err-put_text-2-clause-kept c = over_four _ _ _ _ _ c.put.ensures.kept c.put_text.ensures.kept c.put_moment.ensures.kept c.put_text-2.ensures.kept

pub returns-clause-kept : goal.returns-clause-kept
returns-clause-kept c = over_five _ _ _ _ _ _ c.put.ensures.kept c.put_text.ensures.kept c.put_moment.ensures.kept c.put_text-2.ensures.kept c.put_opening.ensures.kept

pub utf8_text-requires : goal.utf8_text-requires
utf8_text-requires c = rw c.draw_digits-digits.ensures.text (IsUtf8-draw_text c.args.entry.now.draw)

pub returns-clause-ok : goal.returns-clause-ok
unfolding heading_text
returns-clause-ok c =
    let drawn = c.in_ok-put_text-2.ensures.ok ∙ ap (λ t. c.put_moment.new.into.items ++ member_text true (codes "draw") (string t)) (c.utf8_text.ensures ∙ c.draw_digits-digits.ensures.text) in
    let called = c.in_ok-put_text.ensures.ok ∙ ap (λ t. c.put.new.into.items ++ member_text false (codes "caller") (string t)) c.text.ensures.text in
    on_ok_weaker c.put_opening.result
    (λ opened. headed _ _ _ _ _ _ _ _ _ _ c.in_ok-put.ensures.ok called c.in_ok-put_moment.ensures.ok drawn (opened ∙ ap (λ t. c.put_text-2.new.into.items ++ opening_text t) c.name.ensures))
    c.put_opening.ensures.ok

pub returns-clause-holds : goal.returns-clause-holds
returns-clause-holds c =
    on_ok_weaker c.put_opening.result (λ opened. (c.text.ensures.holds, c.put_moment.ensures.holds, c.draw_digits-digits.ensures.holds)) c.put_opening.ensures.ok
