use Rattle.std.proofs.Common.{◌∙◌, ap, sym, subst}
use Rattle.lrs_register.proofs.Ahead.{slot_made}
use Rattle.lrs_register.specs.Slots.{MakesSlots}
use Rattle.xapi_docs.specs.Docs.{documents_in}
use Rattle.xapi_keys.specs.Keys.{is_same_key, key_cmp}
use Rattle.xapi_docs.proofs.Back.{held_by_made}
use Rattle.xapi_docs.proofs.Keyed.{keys_total}
use Rattle.xapi_docs.proofs.docs.Docs.ready.Goals as goal

pub returns-in_ok-before-clause-held : goal.returns-in_ok-before-clause-held
returns-in_ok-before-clause-held c =
    held_by_made c.args.key.now c.in_ok-copy.field-0 c.self.inside.map.entries c.insert.new.self.entries c.in_ok-copy.ensures (sym c.contains_key.ensures ∙ c.if-not-contains_key.true)
    c.in_ok-before.ensures.entries
    ∙ ap documents_in c.self.view_is

pub returns-in_ok-before-clause-made : goal.returns-in_ok-before-clause-made
returns-in_ok-before-clause-made c =
    let key = c.args.key.now in
    let new = c.insert.new.self.entries in
    subst (λ ps. MakesSlots key_cmp (λ k. is_same_key key k) ps new) c.self.view_is
    (slot_made key_cmp keys_total key c.in_ok-copy.field-0 c.self.inside.map.entries new c.in_ok-copy.ensures (sym c.contains_key.ensures ∙ c.if-not-contains_key.true) c.in_ok-before.ensures.updates.0)
