use Rattle.std.proofs.Common.{codes, true, false}
use Rattle.std.proofs.lemmas.Result.{on_ok_weaker}
use Rattle.lrs_json.specs.Texts.{name_text}
use Rattle.lrs_fields.proofs.Kept.{over_two, over_three, over_four}
use Rattle.lrs_record.proofs.Joined.{opened}
use Rattle.lrs_record.proofs.writing.put_opening.Goals as goal

pub returns-in_err-put-clause-kept : goal.returns-in_err-put-clause-kept
returns-in_err-put-clause-kept c = over_two _ _ _ c.put_name.ensures.kept c.put.ensures.kept

pub returns-in_err-put_name-2-clause-kept : goal.returns-in_err-put_name-2-clause-kept
returns-in_err-put_name-2-clause-kept c = over_three _ _ _ _ c.put_name.ensures.kept c.put.ensures.kept c.put_name-2.ensures.kept

pub returns-clause-kept : goal.returns-clause-kept
returns-clause-kept c = over_four _ _ _ _ _ c.put_name.ensures.kept c.put.ensures.kept c.put_name-2.ensures.kept c.put-2.ensures.kept

pub returns-clause-ok : goal.returns-clause-ok
returns-clause-ok c =
    on_ok_weaker c.put-2.result
    (λ end. opened _ _ _ _ _ (name_text true (codes "command")) (name_text false c.args.name.now) c.in_ok-put_name.ensures.ok c.in_ok-put.ensures.ok c.in_ok-put_name-2.ensures.ok end)
    c.put-2.ensures.ok
