use Rattle.std.proofs.Common.{◌≡◌, ◌<◌, ◌∙◌, ℕ, List, length, nat_lt, true, sym, ap, subst, arith, rules}
use Rattle.std.specs.List.{list_any}
use Rattle.std.proofs.lemmas.Fn.{filter_same}
use Rattle.xapi_postings.specs.Ascending.{below}
use Rattle.xapi_postings.proofs.Ascending.{some_below}
use Rattle.xapi_postings.proofs.positions.Positions.cut.Goals as goal

pub invariant_of-self : goal.invariant_of-self
invariant_of-self c =
    let old = c.self.inside.list.items in
    let left : c.retain.new.self.items ≡ below c.args.n old = filter_same _ (λ k. nat_lt k c.args.n) _ (λ x b f' k. search rules) _ _ c.retain.ensures.filtered in
    let one : list_any (λ k. nat_lt k c.args.n) old ≡ true = subst (λ (ks : List ℕ). list_any (λ k. nat_lt k c.args.n) ks ≡ true) (sym c.self.view_is) c.requires in
    let some : 0 < length c.retain.new.self.items = subst (λ (ks : List ℕ). 0 < length ks) (sym left) (some_below c.args.n old one) in
    let counted : c.retain.new.self.len ≡ length c.retain.new.self.items = search rules in
    omega arith

pub returns : goal.returns
returns c =
    let left : c.retain.new.self.items ≡ below c.args.n c.self.inside.list.items = filter_same _ (λ k. nat_lt k c.args.n) _ (λ x b f' k. search rules) _ _ c.retain.ensures.filtered in
    left ∙ ap (λ (ks : List ℕ). below c.args.n ks) c.self.view_is
