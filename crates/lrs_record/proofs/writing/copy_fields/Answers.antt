use Rattle.std.proofs.Common.{◌≡◌, ◌++◌, false, OnOk, ap, subst, sym, ◌∙◌}
use Rattle.std.proofs.lemmas.Result.{on_ok_weaker}
use Rattle.lrs_fields.specs.Values.{members_for}
use Rattle.lrs_json.specs.View.{members_of}
use Rattle.lrs_json.specs.Written.{members_text}
use Rattle.lrs_record.specs.Entries.{HoldsWrite}
use Rattle.lrs_record.specs.Writes.{trees_of, write_fields}
use Rattle.lrs_record.specs.declared.entry.Write.{Write}
use Rattle.lrs_record.specs.declared.entry.Write.TheVariants.{Post}
use Rattle.lrs_record.proofs.writing.copy_fields.Goals as goal

pub copy_statement-requires : goal.copy_statement-requires
copy_statement-requires c = c.requires ∙ ap trees_of c.in-Put.is

pub returns-in-Post-clause-ok : goal.returns-in-Post-clause-ok
returns-in-Post-clause-ok c =
    let start = c.args.into.now.items in
    let same : Post c.args.texts.now ≡ c.args.write.now = ap Post (c.requires ∙ ap trees_of c.in-Post.is) ∙ sym c.in-Post.is in
    on_ok_weaker c.copy_statements.result
    (λ e. e ∙ ap (λ (w : Write). start ++ members_text false (members_of (members_for (write_fields w)))) same)
    c.copy_statements.ensures.ok

pub returns-in-Post-clause-holds : goal.returns-in-Post-clause-holds
returns-in-Post-clause-holds c =
    let same : Post c.args.texts.now ≡ c.args.write.now = ap Post (c.requires ∙ ap trees_of c.in-Post.is) ∙ sym c.in-Post.is in
    subst (λ (w : Write). OnOk c.copy_statements.result (HoldsWrite w)) same c.copy_statements.ensures.holds
