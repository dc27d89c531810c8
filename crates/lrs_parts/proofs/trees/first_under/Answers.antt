use Rattle.std.proofs.Common.{◌≡◌, ◌+◌, ◌∙◌, ℕ, List, Some, ap, drop, sym, false, true}
use Rattle.std.specs.Str.{bytes_eq}
use Rattle.lrs_ids.proofs.Turns.{next_found, next_passed, none_found}
use Rattle.lrs_parts.proofs.Voided.{first_fails, first_passes}
use Rattle.xapi_statement.specs.Statements.{held_under}
use Rattle.xapi_statement.specs.Stored.{StoredStatement}
use Rattle.lrs_parts.proofs.trees.first_under.Goals as goal
use Rattle.lrs_json.proofs.Lists.{drop_item}

pub loop-tree-preserved : goal.loop-tree-preserved
loop-tree-preserved c =
    let at = c.loop-tree in
    let those = c.args.trees.now in
    let t = c.tree-item.result in
    let id = c.args.id.now in
    let fails : bytes_eq t.id id ≡ false = sym (c.is_same_id.ensures ∙ ap (λ (i : List ℕ). bytes_eq i id) c.id.ensures) ∙ c.if-is_same_id.false in
    next_passed (λ (ts : List StoredStatement). held_under id ts) those at.tree-index t _ (drop_item those at.tree-index t c.loop-tree-test.true c.tree-item.is)
    (first_fails id t (drop (at.tree-index + 1) those) fails) at.invariant

pub returns-then-is_same_id : goal.returns-then-is_same_id
returns-then-is_same_id c =
    let at = c.loop-tree in
    let those = c.args.trees.now in
    let t = c.tree-item.result in
    let id = c.args.id.now in
    let passes : bytes_eq t.id id ≡ true = sym (c.is_same_id.ensures ∙ ap (λ (i : List ℕ). bytes_eq i id) c.id.ensures) ∙ c.if-is_same_id.true in
    next_found (λ (ts : List StoredStatement). held_under id ts) those at.tree-index t (Some t) _ (drop_item those at.tree-index t c.loop-tree-test.true c.tree-item.is)
    (first_passes id t (drop (at.tree-index + 1) those) passes) at.invariant

pub returns : goal.returns
returns c =
    let at = c.loop-tree in
    none_found (λ (ts : List StoredStatement). held_under c.args.id.now ts) c.args.trees.now at.tree-index _ c.loop-tree-test.false at.invariant
