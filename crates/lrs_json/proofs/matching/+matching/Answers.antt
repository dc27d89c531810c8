use Rattle.std.proofs.Common.{rules, ◌≡◌, ◌∷◌, [], false, sym, ap, ◌∙◌}
use Rattle.lrs_json.specs.Behind.{left_behind}
use Rattle.lrs_json.specs.View.{view, member_view}
use Rattle.lrs_json.specs.Written.{comma_if, list_text, object_text, quoted, text_of_member, written_tree, written}
use Rattle.lrs_json.specs.declared.tree.Tree.{the_lemmas}
use Rattle.lrs_json.proofs.Behind.{none_behind, some_behind}
use Rattle.lrs_json.proofs.Steps.{none_of_items, some_of_items, spelled_item, none_of_members, some_of_members, spelled_member}
use Rattle.lrs_json.proofs.matching.+matching.Goals as goal

pub behind_item-returns-in_err-behind_comma-clause-left : goal.behind_item-returns-in_err-behind_comma-clause-left
behind_item-returns-in_err-behind_comma-clause-left t c =
    rw (c.from_residual.ensures) (sym (none_behind (comma_if c.args.later) (written_tree c.args.item.now) c.args.bytes.now c.behind_comma.result c.behind_comma.ensures c.in_err-behind_comma.was))

pub behind_item-returns-clause-left : goal.behind_item-returns-clause-left
behind_item-returns-clause-left t c =
    c.behind_tree.ensures.left
    ∙ sym (some_behind (comma_if c.args.later) (written_tree c.args.item.now) c.args.bytes.now c.behind_comma.result c.in_ok-behind_comma.field-0 c.behind_comma.ensures c.in_ok-behind_comma.was)

pub behind_items-returns-in_err-left-clause-left : goal.behind_items-returns-in_err-left-clause-left
behind_items-returns-in_err-left-clause-left t c =
    rw (c.from_residual.ensures) (sym (none_of_items c.args.items.now c.loop-i.i _ _ _ c.loop-i-test.true c.index-items-i.is c.behind_item.ensures.left c.in_err-left.was) ∙ c.loop-i.invariant.left)

pub behind_items-loop-i-preserved : goal.behind_items-loop-i-preserved
behind_items-loop-i-preserved t c = record {
  left = sym (some_of_items c.args.items.now c.loop-i.i _ _ _ c.in_ok-left.left c.loop-i-test.true c.index-items-i.is c.behind_item.ensures.left c.in_ok-left.was) ∙ c.loop-i.invariant.left;
  spellable = λ more. c.loop-i.invariant.spellable (spelled_item c.args.items.now c.loop-i.i _ c.loop-i-test.true c.index-items-i.is c.in_ok-left.ensures.spellable more);
}

pub behind_member-returns-in_err-name-clause-left : goal.behind_member-returns-in_err-name-clause-left
behind_member-returns-in_err-name-clause-left t c =
    rw (c.from_residual.ensures) (sym (none_behind (comma_if c.args.later) (text_of_member c.args.member.now) c.args.bytes.now c.behind_comma.result c.behind_comma.ensures c.in_err-name.was))

pub behind_member-returns-in_err-colon-clause-left : goal.behind_member-returns-in_err-colon-clause-left
behind_member-returns-in_err-colon-clause-left t c =
    let m = c.args.member.now in
    let name : c.as_bytes.result.now ≡ (member_view m).0 = search (rules, the_lemmas) in
    rw (c.from_residual-in_err-colon.ensures)
    (sym (some_behind (comma_if c.args.later) (text_of_member m) c.args.bytes.now c.behind_comma.result c.in_ok-name.name c.behind_comma.ensures c.in_ok-name.was
    ∙ none_behind (quoted (member_view m).0) (58 ∷ written (member_view m).1) _ c.behind_quoted.result (rw (← name) c.behind_quoted.ensures) c.in_err-colon.was))

pub behind_member-returns-in_err-behind-clause-left : goal.behind_member-returns-in_err-behind-clause-left
behind_member-returns-in_err-behind-clause-left t c =
    let m = c.args.member.now in
    let name : c.as_bytes.result.now ≡ (member_view m).0 = search (rules, the_lemmas) in
    rw (c.from_residual-in_err-behind.ensures)
    (sym (some_behind (comma_if c.args.later) (text_of_member m) c.args.bytes.now c.behind_comma.result c.in_ok-name.name c.behind_comma.ensures c.in_ok-name.was
    ∙ some_behind (quoted (member_view m).0) (58 ∷ written (member_view m).1) _ c.behind_quoted.result c.in_ok-colon.colon (rw (← name) c.behind_quoted.ensures) c.in_ok-colon.was
    ∙ none_behind (58 ∷ []) (written (member_view m).1) _ c.behind.result c.behind.ensures c.in_err-behind.was))

pub behind_member-returns-clause-left : goal.behind_member-returns-clause-left
behind_member-returns-clause-left t c =
    let m = c.args.member.now in
    let name : c.as_bytes.result.now ≡ (member_view m).0 = search (rules, the_lemmas) in
    let value : view m.value ≡ (member_view m).1 = search (rules, the_lemmas) in
    c.behind_tree.ensures.left ∙ ap (λ j. left_behind (written j) c.in_ok-behind.field-0.now) value
    ∙ sym (some_behind (comma_if c.args.later) (text_of_member m) c.args.bytes.now c.behind_comma.result c.in_ok-name.name c.behind_comma.ensures c.in_ok-name.was
    ∙ some_behind (quoted (member_view m).0) (58 ∷ written (member_view m).1) _ c.behind_quoted.result c.in_ok-colon.colon (rw (← name) c.behind_quoted.ensures) c.in_ok-colon.was
    ∙ some_behind (58 ∷ []) (written (member_view m).1) _ c.behind.result c.in_ok-behind.field-0 c.behind.ensures c.in_ok-behind.was)

pub behind_members-returns-in_err-left-clause-left : goal.behind_members-returns-in_err-left-clause-left
behind_members-returns-in_err-left-clause-left t c =
    rw (c.from_residual.ensures) (sym (none_of_members c.args.members.now c.loop-i.i _ _ _ c.loop-i-test.true c.index-members-i.is c.behind_member.ensures.left c.in_err-left.was) ∙ c.loop-i.invariant.left)

pub behind_members-loop-i-preserved : goal.behind_members-loop-i-preserved
behind_members-loop-i-preserved t c = record {
  left = sym (some_of_members c.args.members.now c.loop-i.i _ _ _ c.in_ok-left.left c.loop-i-test.true c.index-members-i.is c.behind_member.ensures.left c.in_ok-left.was) ∙ c.loop-i.invariant.left;
  spellable = λ more. c.loop-i.invariant.spellable (spelled_member c.args.members.now c.loop-i.i _ c.loop-i-test.true c.index-members-i.is c.in_ok-left.ensures.name c.in_ok-left.ensures.spellable more);
}

pub behind_tree-returns-in_err-behind-in-List-clause-left : goal.behind_tree-returns-in_err-behind-in-List-clause-left
behind_tree-returns-in_err-behind-in-List-clause-left t c =
    let whole : written_tree c.args.tree.now ≡ 91 ∷ list_text false c.as_slice.result.now = search (rules, the_lemmas) in
    rw (c.from_residual.ensures, whole) (sym (none_behind (91 ∷ []) (list_text false c.as_slice.result.now) c.args.bytes.now c.behind-in-List.result c.behind-in-List.ensures c.in_err-behind-in-List.was))

pub behind_tree-returns-in_err-behind-in-Object-clause-left : goal.behind_tree-returns-in_err-behind-in-Object-clause-left
behind_tree-returns-in_err-behind-in-Object-clause-left t c =
    let whole : written_tree c.args.tree.now ≡ 123 ∷ object_text false c.as_slice-in-Object.result.now = search (rules, the_lemmas) in
    rw (c.from_residual-in_err-behind-in-Object.ensures, whole) (sym (none_behind (123 ∷ []) (object_text false c.as_slice-in-Object.result.now) c.args.bytes.now c.behind-in-Object.result c.behind-in-Object.ensures c.in_err-behind-in-Object.was))

pub behind_tree-returns-in_ok-behind-in-List-clause-left : goal.behind_tree-returns-in_ok-behind-in-List-clause-left
behind_tree-returns-in_ok-behind-in-List-clause-left t c =
    let whole : written_tree c.args.tree.now ≡ 91 ∷ list_text false c.as_slice.result.now = search (rules, the_lemmas) in
    rw (whole) (c.behind_items.ensures.left ∙ sym (some_behind (91 ∷ []) (list_text false c.as_slice.result.now) c.args.bytes.now c.behind-in-List.result c.in_ok-behind-in-List.field-0 c.behind-in-List.ensures c.in_ok-behind-in-List.was))

pub behind_tree-returns-in_ok-behind-in-Object-clause-left : goal.behind_tree-returns-in_ok-behind-in-Object-clause-left
behind_tree-returns-in_ok-behind-in-Object-clause-left t c =
    let whole : written_tree c.args.tree.now ≡ 123 ∷ object_text false c.as_slice-in-Object.result.now = search (rules, the_lemmas) in
    rw (whole) (c.behind_members.ensures.left ∙ sym (some_behind (123 ∷ []) (object_text false c.as_slice-in-Object.result.now) c.args.bytes.now c.behind-in-Object.result c.in_ok-behind-in-Object.field-0 c.behind-in-Object.ensures c.in_ok-behind-in-Object.was))
