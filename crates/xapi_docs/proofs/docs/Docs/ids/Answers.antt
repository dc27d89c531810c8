use Rattle.std.proofs.Common.{◌≡◌, ◌∙◌, ◌++◌, [], ◌∷◌, sym, subst, rules}
use Rattle.std.specs.Cmp.Lexicographic.{slice_cmp}
use Rattle.std.specs.List.Sorted.{IsStrictlySortedBy}
use Rattle.std.specs.Map.{keys_of}
use Rattle.std.specs.Map.Iter.{deref_pair}
use Rattle.std.specs.Ordering.{nat_cmp}
use Rattle.std.proofs.lemmas.Map.Iter.{rest_all, rest_more}
use Rattle.xapi_docs.proofs.Listed.{WalksIds, ids_end, ids_more, ids_past, ids_sorted, ids_start, ids_stop}
use Rattle.xapi_keys.specs.Keys.{key_cmp}
use Rattle.xapi_docs.proofs.docs.Docs.ids.Goals as goal

pub loop-key-init : goal.loop-key-init
loop-key-init c = (
  tt,
  tt,
  ids_start c.args.activity.now c.args.agent.now c.args.registration.now c.args.since c.new-ids.result.items c.in_ok-first.first c.into_iter-key-iterator.result c.self.inside.map.entries c.args.self.now
      c.new-ids.ensures.items c.in_ok-first.ensures (c.into_iter-key-iterator.ensures.into_iter_gives ∙ c.range-key-items.ensures.between tt) c.self.view_is c.self.invariant,
)

pub returns-then-not-is_of-clause-is : goal.returns-then-not-is_of-clause-is
returns-then-not-is_of-clause-is c =
    let left = rest_more deref_pair c.loop-key.key-iterator c.next.new.self c.next.result (c.in-Some.key, c.in-Some.slot) c.in-Some.is c.next.ensures.steps in
    ids_stop c.args.activity.now c.args.agent.now c.args.registration.now c.args.since c.loop-key.ids.items c.in-Some.key.now c.in-Some.slot.now c.next.new.self c.args.self.now
    (subst (λ rest. WalksIds c.args.activity.now c.args.agent.now c.args.registration.now c.args.since c.loop-key.ids.items rest c.args.self.now) left c.loop-key.invariant.2) (sym c.is_of.ensures ∙ c.if-not-is_of.true)

pub returns-then-not-is_of-clause-order : goal.returns-then-not-is_of-clause-order
returns-then-not-is_of-clause-order c =
    let left = rest_more deref_pair c.loop-key.key-iterator c.next.new.self c.next.result (c.in-Some.key, c.in-Some.slot) c.in-Some.is c.next.ensures.steps in
    let is = ids_stop c.args.activity.now c.args.agent.now c.args.registration.now c.args.since c.loop-key.ids.items c.in-Some.key.now c.in-Some.slot.now c.next.new.self c.args.self.now
    (subst (λ rest. WalksIds c.args.activity.now c.args.agent.now c.args.registration.now c.args.since c.loop-key.ids.items rest c.args.self.now) left c.loop-key.invariant.2) (sym c.is_of.ensures ∙ c.if-not-is_of.true) in
    let sorted = subst (λ slots. IsStrictlySortedBy key_cmp (keys_of slots)) c.self.view_is c.self.invariant in
    subst (λ ids. IsStrictlySortedBy (slice_cmp nat_cmp) ids) (sym is) (ids_sorted c.args.activity.now c.args.agent.now c.args.registration.now c.args.since c.args.self.now sorted)

pub loop-key-preserved-in_ok-push : goal.loop-key-preserved-in_ok-push
loop-key-preserved-in_ok-push c =
    let left = rest_more deref_pair c.loop-key.key-iterator c.next.new.self c.next.result (c.in-Some.key, c.in-Some.slot) c.in-Some.is c.next.ensures.steps in
    let pushed : c.push.new.self.items ≡ c.loop-key.ids.items ++ c.in-Some.key.now.state ∷ [] = search rules in
    let more = ids_more c.args.activity.now c.args.agent.now c.args.registration.now c.args.since c.loop-key.ids.items c.in-Some.key.now c.in-Some.slot.now c.next.new.self c.args.self.now
    (subst (λ rest. WalksIds c.args.activity.now c.args.agent.now c.args.registration.now c.args.since c.loop-key.ids.items rest c.args.self.now) left c.loop-key.invariant.2)
    (sym c.is_of.ensures ∙ c.if-not-is_of.false) (sym c.is_listed.ensures ∙ c.if-is_listed.true) in
    (tt, tt, subst (λ ids. WalksIds c.args.activity.now c.args.agent.now c.args.registration.now c.args.since ids c.next.new.self c.args.self.now) (sym pushed) more)

pub loop-key-preserved : goal.loop-key-preserved
loop-key-preserved c =
    let left = rest_more deref_pair c.loop-key.key-iterator c.next.new.self c.next.result (c.in-Some.key, c.in-Some.slot) c.in-Some.is c.next.ensures.steps in (
      tt,
      tt,
      ids_past c.args.activity.now c.args.agent.now c.args.registration.now c.args.since c.loop-key.ids.items c.in-Some.key.now c.in-Some.slot.now c.next.new.self c.args.self.now
          (subst (λ rest. WalksIds c.args.activity.now c.args.agent.now c.args.registration.now c.args.since c.loop-key.ids.items rest c.args.self.now) left c.loop-key.invariant.2)
          (sym c.is_of.ensures ∙ c.if-not-is_of.false) (sym c.is_listed.ensures ∙ c.if-is_listed.false),
    )

pub returns-clause-order : goal.returns-clause-order
returns-clause-order c =
    let is = ids_end c.args.activity.now c.args.agent.now c.args.registration.now c.args.since c.loop-key.ids.items c.loop-key.key-iterator c.args.self.now c.loop-key.invariant.2
    (rest_all deref_pair c.loop-key.key-iterator c.next.new.self c.next.result c.in-None.is c.next.ensures.steps) in
    let sorted = subst (λ slots. IsStrictlySortedBy key_cmp (keys_of slots)) c.self.view_is c.self.invariant in
    subst (λ ids. IsStrictlySortedBy (slice_cmp nat_cmp) ids) (sym is) (ids_sorted c.args.activity.now c.args.agent.now c.args.registration.now c.args.since c.args.self.now sorted)
