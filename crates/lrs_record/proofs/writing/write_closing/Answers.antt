use Rattle.std.proofs.Common.{[], ◌∷◌, false}
use Rattle.std.proofs.lemmas.Result.{on_ok_weaker}
use Rattle.lrs_fields.specs.Values.{members_for}
use Rattle.lrs_fields.proofs.Kept.{over_two}
use Rattle.lrs_json.specs.View.{members_of}
use Rattle.lrs_json.specs.Written.{members_text}
use Rattle.lrs_record.specs.Writes.{write_fields}
use Rattle.lrs_record.proofs.Joined.{behind}
use Rattle.lrs_record.proofs.writing.write_closing.Goals as goal

pub returns-clause-kept : goal.returns-clause-kept
returns-clause-kept c = over_two _ _ _ c.copy_fields.ensures.kept c.put.ensures.kept

pub returns-clause-ok : goal.returns-clause-ok
returns-clause-ok c =
    on_ok_weaker c.put.result
    (λ end. behind _ _ _ (members_text false (members_of (members_for (write_fields c.args.write.now)))) (125 ∷ 125 ∷ []) c.in_ok-copy_fields.ensures.ok end)
    c.put.ensures.ok
