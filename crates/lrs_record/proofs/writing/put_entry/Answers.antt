use Rattle.std.proofs.Common.{◌++◌, ap, false, sym, ◌∙◌}
use Rattle.std.proofs.lemmas.Result.{on_ok_weaker}
use Rattle.lrs_fields.specs.Values.{members_for}
use Rattle.lrs_fields.proofs.Kept.{over_two, over_three}
use Rattle.lrs_json.specs.View.{members_of}
use Rattle.lrs_json.specs.Written.{members_text}
use Rattle.lrs_record.specs.Entries.{heading_text}
use Rattle.lrs_record.specs.Writes.{write_fields}
use Rattle.lrs_record.proofs.EntryParts.{entry_parts}
use Rattle.lrs_record.proofs.Joined.{closed}
use Rattle.lrs_record.proofs.writing.put_entry.Goals as goal

pub returns-in_err-put_fields-clause-kept : goal.returns-in_err-put_fields-clause-kept
returns-in_err-put_fields-clause-kept c = over_two _ _ _ c.put_heading.ensures.kept c.put_fields.ensures.kept

pub returns-clause-kept : goal.returns-clause-kept
returns-clause-kept c = over_three _ _ _ _ c.put_heading.ensures.kept c.put_fields.ensures.kept c.put.ensures.kept

pub returns-clause-ok : goal.returns-clause-ok
returns-clause-ok c =
    let start = c.args.into.now.items in
    let entry = c.args.entry.now in
    on_ok_weaker c.put.result
    (λ end. closed start _ _ _ (heading_text entry) (members_text false (members_of (members_for (write_fields entry.write)))) c.in_ok-put_heading.ensures.ok c.in_ok-put_fields.ensures.ok end
    ∙ ap (λ t. start ++ t) (sym (entry_parts entry)))
    c.put.ensures.ok

pub returns-clause-values : goal.returns-clause-values
returns-clause-values c =
    let heading = c.in_ok-put_heading.ensures.holds in
    on_ok_weaker c.put.result (λ end. record { caller = heading.0; write = c.in_ok-put_fields.ensures.holds; moment = heading.1; draw = heading.2 }) c.put.ensures.ok
