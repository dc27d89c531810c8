use Rattle.std.proofs.Common.{◌≡◌, ◌<◌, length, vec_len, sym, ap, ◌∙◌, subst, rules}
use Rattle.lrs_json.specs.View.{member_view, view}
use Rattle.lrs_json.specs.declared.tree.Member.{roll-Member}
use Rattle.lrs_json.specs.declared.tree.Tree.{the_lemmas}
use Rattle.xapi_docs.specs.Merging.{index_in}
use Rattle.xapi_docs.proofs.NameIndices.{push_indices, push_puts, seen, seen_within, set_indices, set_puts}
use Rattle.xapi_docs.proofs.merging.put_member.Goals as goal

pub index_mut-requires : goal.index_mut-requires
index_mut-requires c =
    let size : length c.args.held.now.items ≡ vec_len c.args.held.now = search rules in
    let within = seen_within c.args.member.name c.args.held.now.items c.in-Some.at.now (sym (c.requires c.args.member.name) ∙ sym c.in-Some.ensures.value) in
    subst (λ n. c.in-Some.at.now < n) size within

pub returns-in-Some-clause-put : goal.returns-in-Some-clause-put
returns-in-Some-clause-put c =
    let m : member_view c.args.member ≡ (c.args.member.name, view c.args.member.value) = search (rules, the_lemmas) in
    let new : member_view (roll-Member (record { name = c.index_mut.result.now.name; value = c.args.member.value })) ≡ ((member_view c.index_mut.result.now).0, view c.args.member.value) = search (rules, the_lemmas) in
    rw m (set_puts c.args.member.name c.args.held.now.items c.in-Some.at.now _ c.index_mut.result.now (view c.args.member.value) (sym (c.requires c.args.member.name) ∙ sym c.in-Some.ensures.value) c.index_mut.ensures.value new)

pub returns-in-Some-clause-indices : goal.returns-in-Some-clause-indices
returns-in-Some-clause-indices c =
    let new : member_view (roll-Member (record { name = c.index_mut.result.now.name; value = c.args.member.value })) ≡ ((member_view c.index_mut.result.now).0, view c.args.member.value) = search (rules, the_lemmas) in
    set_indices c.args.indices.now c.args.member.name c.args.held.now.items c.in-Some.at.now _ c.index_mut.result.now (view c.args.member.value) c.requires (sym (c.requires c.args.member.name) ∙ sym c.in-Some.ensures.value) c.index_mut.ensures.value new

pub returns-in_ok-push-in-None-clause-put : goal.returns-in_ok-push-in-None-clause-put
returns-in_ok-push-in-None-clause-put c =
    let named : c.args.member.name ≡ (member_view c.args.member).0 = search (rules, the_lemmas) in
    push_puts c.args.held.now.items c.push.new.self.items c.args.member c.in_ok-push-in-None.ensures.items
    (ap (λ z. index_in z (seen c.args.held.now.items)) (sym named) ∙ sym (c.requires c.args.member.name) ∙ sym c.in-None.ensures.value)

pub returns-in_ok-push-in-None-clause-indices : goal.returns-in_ok-push-in-None-clause-indices
returns-in_ok-push-in-None-clause-indices c =
    let named : c.args.member.name ≡ (member_view c.args.member).0 = search (rules, the_lemmas) in
    let size : vec_len c.args.held.now ≡ length c.args.held.now.items = search rules in
    push_indices c.args.indices.now c.insert.new.self c.args.held.now.items c.push.new.self.items c.args.member c.in_ok-clone-in-None.field-0 c.len.result (c.in_ok-clone-in-None.ensures.cases ∙ named) c.in_ok-push-in-None.ensures.items
    c.requires (ap (λ z. index_in z (seen c.args.held.now.items)) (sym named) ∙ sym (c.requires c.args.member.name) ∙ sym c.in-None.ensures.value) (c.len.ensures ∙ size) c.in_ok-insert-in-None.ensures.updates.0
