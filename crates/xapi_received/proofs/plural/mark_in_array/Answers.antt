use Rattle.std.proofs.Common.{sym}
use Rattle.std.proofs.lemmas.Result.{on_ok_weaker}
use Rattle.lrs_json.specs.Json.{array, element, no_elements}
use Rattle.lrs_json.specs.View.{view}
use Rattle.xapi_format.specs.Completed.{in_array}
use Rattle.xapi_received.proofs.Memberwise.{alone, not_alone, marks_as}
use Rattle.xapi_received.proofs.plural.mark_in_array.Goals as goal

pub returns-in-Some : goal.returns-in-Some
returns-in-Some c =
    let json = view c.args.tree.now in
    on_ok_weaker c.put_in_brackets.result (λ n. marks_as json (array (element json no_elements)) (in_array json) c.args.draft.now c.put_in_brackets.new.self
    (alone json _ c.in-Some.ensures) n) c.put_in_brackets.ensures

pub returns-in-None : goal.returns-in-None
returns-in-None c =
    let json = view c.args.tree.now in
    on_ok_weaker c.put_tree.result (λ n. marks_as json json (in_array json) c.args.draft.now c.put_tree.new.self (sym (not_alone json c.in-None.ensures)) n) c.put_tree.ensures
