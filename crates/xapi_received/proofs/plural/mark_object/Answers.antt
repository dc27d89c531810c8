use Rattle.std.proofs.Common.{true, false, refl, sym, ◌∙◌}
use Rattle.std.proofs.lemmas.Result.{on_ok_weaker}
use Rattle.lrs_json.specs.View.{view}
use Rattle.xapi_format.specs.XapiValuesMemberwise.{with_each_member}
use Rattle.xapi_format.specs.Completed.{plural_nested_member}
use Rattle.xapi_received.proofs.Memberwise.{marks_nested}
use Rattle.xapi_received.proofs.plural.mark_object.Goals as goal

pub returns-then-is_nested : goal.returns-then-is_nested
returns-then-is_nested c =
    let json = view c.args.tree.now in
    on_ok_weaker c.mark_each.result (λ n. marks_nested json (with_each_member plural_nested_member json) true c.args.draft.now c.mark_each.new.draft (sym c.is_nested.ensures ∙ c.if-is_nested.true) refl n)
    c.mark_each.ensures

pub returns-else-is_nested : goal.returns-else-is_nested
returns-else-is_nested c =
    let json = view c.args.tree.now in
    on_ok_weaker c.put_tree.result (λ n. marks_nested json json false c.args.draft.now c.put_tree.new.self (sym c.is_nested.ensures ∙ c.if-is_nested.false) refl n) c.put_tree.ensures
