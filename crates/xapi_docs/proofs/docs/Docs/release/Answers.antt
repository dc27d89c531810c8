use Rattle.std.proofs.Common.{◌∙◌, ap, is_some, sym, subst}
use Rattle.std.specs.BTreeMap.{is_at}
use Rattle.std.specs.Map.{lookup}
use Rattle.lrs_register.proofs.Ahead.{left_in, taken_out}
use Rattle.lrs_register.specs.Slots.{TakesSlotsBack, is_empty_at}
use Rattle.xapi_docs.specs.Docs.{AreHeld, documents_in}
use Rattle.xapi_keys.specs.Keys.{is_same_key, key_cmp}
use Rattle.xapi_docs.proofs.Back.{held_by_left, held_there, none_left}
use Rattle.xapi_docs.proofs.Keyed.{keys_total}
use Rattle.xapi_docs.proofs.docs.Docs.release.Goals as goal

pub returns-then-is_empty_at-clause-held : goal.returns-then-is_empty_at-clause-held
returns-then-is_empty_at-clause-held c =
    let key = c.args.key.now in
    let empty = ap (λ ps. is_empty_at key_cmp ps key) c.self.view_is ∙ sym c.is_empty_at.ensures ∙ c.if-is_empty_at.true in
    held_by_left key c.self.inside.map.entries c.remove-slot.new.self.entries c.self.invariant empty c.remove-slot.ensures.entries ∙ ap documents_in c.self.view_is

pub returns-then-is_empty_at-clause-back : goal.returns-then-is_empty_at-clause-back
returns-then-is_empty_at-clause-back c =
    let key = c.args.key.now in
    let new = c.remove-slot.new.self.entries in
    let empty = ap (λ ps. is_empty_at key_cmp ps key) c.self.view_is ∙ sym c.is_empty_at.ensures ∙ c.if-is_empty_at.true in
    subst (λ ps. TakesSlotsBack key_cmp (λ k. is_same_key key k) ps new) c.self.view_is
    (taken_out key_cmp keys_total key c.self.inside.map.entries new empty c.remove-slot.ensures.updates.0)

pub returns-else-is_empty_at-clause-back : goal.returns-else-is_empty_at-clause-back
returns-else-is_empty_at-clause-back c =
    let key = c.args.key.now in
    let full = ap (λ ps. is_empty_at key_cmp ps key) c.self.view_is ∙ sym c.is_empty_at.ensures ∙ c.if-is_empty_at.false in
    subst (λ ps. TakesSlotsBack key_cmp (λ k. is_same_key key k) ps ps) c.self.view_is (left_in key_cmp keys_total key c.self.inside.map.entries full)

pub returns-then-is_empty_at-clause-filled : goal.returns-then-is_empty_at-clause-filled
returns-then-is_empty_at-clause-filled c = λ k same has.
    let key = c.args.key.now in
    let left = lookup (is_at (key_cmp k)) c.self.inside.map.entries in
    absurd (none_left (is_same_key key k) left same (sym (ap is_some (c.remove-slot.ensures.updates.0 k)) ∙ has))

pub returns-else-is_empty_at-clause-filled : goal.returns-else-is_empty_at-clause-filled
returns-else-is_empty_at-clause-filled c =
    let key = c.args.key.now in
    let slots = c.self.inside.map.entries in
    let full = ap (λ ps. is_empty_at key_cmp ps key) c.self.view_is ∙ sym c.is_empty_at.ensures ∙ c.if-is_empty_at.false in
    subst (λ ps. AreHeld (λ k. is_same_key key k) ps) c.self.view_is
    (λ k same has. held_there k slots c.self.invariant ((left_in key_cmp keys_total key slots full).filled k same has))
