use Rattle.std.proofs.Common.{◌++◌, ap, sym, ◌∙◌}
use Rattle.std.proofs.lemmas.Result.{on_ok_weaker}
use Rattle.lrs_fields.proofs.Kept.{over_two}
use Rattle.lrs_record.specs.Entries.{heading_text}
use Rattle.lrs_record.proofs.EntryParts.{entry_parts}
use Rattle.lrs_record.proofs.Joined.{behind}
use Rattle.lrs_record.proofs.writing.write_headed.Goals as goal

pub returns-clause-kept : goal.returns-clause-kept
returns-clause-kept c = over_two _ _ _ c.put_heading.ensures.kept c.put.ensures.kept

pub returns-clause-ok : goal.returns-clause-ok
returns-clause-ok c =
    let entry = c.args.entry.now in
    let start = c.args.into.now.items in
    on_ok_weaker c.put.result
    (λ end. behind start _ _ (heading_text entry) c.args.closing.now c.in_ok-put_heading.ensures.ok end
    ∙ ap (λ t. start ++ t) (ap (λ t. heading_text entry ++ t) c.requires.closing ∙ sym (entry_parts entry)))
    c.put.ensures.ok

pub returns-clause-lawful : goal.returns-clause-lawful
returns-clause-lawful c =
    let heading = c.in_ok-put_heading.ensures.holds in
    on_ok_weaker c.put.result
    (λ end. record { caller = c.requires.caller; write = c.requires.write; values = record { caller = heading.0; write = c.requires.holds; moment = heading.1; draw = heading.2 } })
    c.put.ensures.ok
