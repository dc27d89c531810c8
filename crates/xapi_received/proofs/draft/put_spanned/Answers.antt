use Rattle.std.proofs.Common.{◌++◌, List, ℕ, length, ap, ◌∙◌}
use Rattle.lrs_json.specs.Texts.{name_text}
use Rattle.lrs_json.specs.View.{view}
use Rattle.lrs_json.specs.Written.{written}
use Rattle.xapi_format.proofs.Appending.{name_and_value}
use Rattle.xapi_received.proofs.Spans.{last_is, last_within}
use Rattle.xapi_received.proofs.draft.put_spanned.Goals as goal

pub returns-clause-text : goal.returns-clause-text
returns-clause-text c =
    let old = c.args.text.now.items in
    name_and_value c.args.later c.args.part.now.name (view c.args.part.now.value) old c.put_name.new.into.items c.put_tree.new.into.items
    (c.in_ok-put_name.ensures.ok ∙ ap (λ (k : List ℕ). old ++ name_text c.args.later k) c.as_str-name.ensures.lent) c.in_ok-put_tree.ensures.ok

pub returns-clause-within : goal.returns-clause-within
returns-clause-within c =
    last_within c.put_name.new.into.items c.put_tree.new.into.items (written (view c.args.part.now.value)) c.in_ok-start.start c.in_ok-end.end (c.in_ok-start.ensures ∙ ap length c.as_slice.ensures.value)
    c.in_ok-put_tree.ensures.ok (c.in_ok-end.ensures ∙ ap length c.as_slice-2.ensures.value)

pub returns-clause-value : goal.returns-clause-value
returns-clause-value c =
    last_is c.put_name.new.into.items c.put_tree.new.into.items (written (view c.args.part.now.value)) c.in_ok-start.start c.in_ok-end.end (c.in_ok-start.ensures ∙ ap length c.as_slice.ensures.value)
    c.in_ok-put_tree.ensures.ok (c.in_ok-end.ensures ∙ ap length c.as_slice-2.ensures.value)
