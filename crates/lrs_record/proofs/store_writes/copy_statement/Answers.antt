use Rattle.std.proofs.Common.{◌++◌, false, ap, ◌∙◌}
use Rattle.std.proofs.lemmas.Result.{on_ok_weaker}
use Rattle.lrs_fields.specs.Values.{members_for}
use Rattle.lrs_json.specs.View.{members_of}
use Rattle.lrs_json.specs.Written.{members_text}
use Rattle.lrs_json.specs.declared.tree.Tree.{Tree}
use Rattle.lrs_record.specs.Writes.{write_fields}
use Rattle.lrs_record.specs.declared.entry.Write.TheVariants.{Put}
use Rattle.lrs_record.proofs.Copied.{has_one, the_one}
use Rattle.lrs_record.proofs.store_writes.copy_statement.Goals as goal

pub unreachable-requires : goal.unreachable-requires
unreachable-requires c = has_one c.args.texts.now c.args.statement.now c.requires c.in-None.ensures.value

pub returns-clause-ok : goal.returns-clause-ok
returns-clause-ok c =
    let start = c.args.into.now.items in
    let same = the_one c.args.texts.now c.args.statement.now c.in-Some.text.now c.requires c.in-Some.ensures.value in
    on_ok_weaker c.put_statement.result
    (λ e. e ∙ ap (λ (t : Tree). start ++ members_text false (members_of (members_for (write_fields (Put c.args.id.now t))))) same)
    c.put_statement.ensures.ok

-- a tree holds whatever it is
pub returns-clause-holds : goal.returns-clause-holds
returns-clause-holds c = c.put_statement.ensures.holds
