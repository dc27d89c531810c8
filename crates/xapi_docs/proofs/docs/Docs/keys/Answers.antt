use Rattle.std.proofs.Common.{◌≡◌, ◌∙◌, ◌++◌, [], ◌∷◌, sym, subst, rules}
use Rattle.std.specs.Map.Iter.{deref_pair}
use Rattle.std.proofs.lemmas.Map.Iter.{rest_more}
use Rattle.xapi_docs.proofs.Listed.{WalksKeys, keys_more, keys_past, keys_start, keys_stop}
use Rattle.xapi_docs.proofs.docs.Docs.keys.Goals as goal

pub loop-key-init : goal.loop-key-init
loop-key-init c = (
  tt,
  tt,
  keys_start c.args.activity.now c.args.agent.now c.args.registration.now c.args.state.now c.new-keys.result c.in_ok-first.first c.into_iter-key-iterator.result c.self.inside.map.entries c.args.self.now
      c.new-keys.ensures c.in_ok-first.ensures (c.into_iter-key-iterator.ensures.into_iter_gives ∙ c.range-key-items.ensures.between tt) c.self.view_is c.self.invariant,
)

pub returns-then-not-is_of : goal.returns-then-not-is_of
returns-then-not-is_of c =
    let left = rest_more deref_pair c.loop-key.key-iterator c.next.new.self c.next.result (c.in-Some.key, c.in-Some.slot) c.in-Some.is c.next.ensures.steps in
    keys_stop c.args.activity.now c.args.agent.now c.args.registration.now c.args.state.now c.loop-key.keys c.in-Some.key.now c.in-Some.slot.now c.next.new.self c.args.self.now
    (subst (λ rest. WalksKeys c.args.activity.now c.args.agent.now c.args.registration.now c.args.state.now c.loop-key.keys rest c.args.self.now) left c.loop-key.invariant.2) (sym c.is_of.ensures ∙ c.if-not-is_of.true)

pub loop-key-preserved-in_ok-push : goal.loop-key-preserved-in_ok-push
loop-key-preserved-in_ok-push c =
    let left = rest_more deref_pair c.loop-key.key-iterator c.next.new.self c.next.result (c.in-Some.key, c.in-Some.slot) c.in-Some.is c.next.ensures.steps in
    let pushed : c.push.new.self ≡ c.loop-key.keys ++ c.in-Some.key.now ∷ [] = search rules in
    let more = keys_more c.args.activity.now c.args.agent.now c.args.registration.now c.args.state.now c.loop-key.keys c.in-Some.key.now c.in-Some.slot.now c.next.new.self c.args.self.now
    (subst (λ rest. WalksKeys c.args.activity.now c.args.agent.now c.args.registration.now c.args.state.now c.loop-key.keys rest c.args.self.now) left c.loop-key.invariant.2)
    (sym c.is_of.ensures ∙ c.if-not-is_of.false) (sym c.is_named.ensures ∙ c.if-is_named.true) in
    (tt, tt, subst (λ keys. WalksKeys c.args.activity.now c.args.agent.now c.args.registration.now c.args.state.now keys c.next.new.self c.args.self.now) (sym pushed) more)

pub loop-key-preserved : goal.loop-key-preserved
loop-key-preserved c =
    let left = rest_more deref_pair c.loop-key.key-iterator c.next.new.self c.next.result (c.in-Some.key, c.in-Some.slot) c.in-Some.is c.next.ensures.steps in (
      tt,
      tt,
      keys_past c.args.activity.now c.args.agent.now c.args.registration.now c.args.state.now c.loop-key.keys c.in-Some.key.now c.in-Some.slot.now c.next.new.self c.args.self.now
          (subst (λ rest. WalksKeys c.args.activity.now c.args.agent.now c.args.registration.now c.args.state.now c.loop-key.keys rest c.args.self.now) left c.loop-key.invariant.2)
          (sym c.is_of.ensures ∙ c.if-not-is_of.false) (sym c.is_named.ensures ∙ c.if-is_named.false),
    )
