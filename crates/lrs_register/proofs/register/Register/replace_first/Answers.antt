use Rattle.std.proofs.Common.{rules, sym, ap, ◌∙◌, ◌≡◌, Some, None}
use Rattle.std.specs.BTreeMap.{is_at}
use Rattle.std.specs.Ordering.{is_eq}
use Rattle.std.specs.Cmp.{Equal-is}
use Rattle.std.proofs.lemmas.List.Quantifiers.{position-Some}
use Rattle.lrs_register.specs.Register.{index_under}
use Rattle.lrs_register.proofs.Firsts.{with_first-at, with_first-same}
use Rattle.lrs_register.proofs.register.Register.replace_first.Goals as goal

pub replace-requires-clause-same : goal.replace-requires-clause-same
replace-requires-clause-same g c q =
    let found : index_under (λ k. is_at (g.K.Ord.cmp k)) g.T.Keyed.key (g.T.Keyed.key c.args.item) c.args.self.now.held ≡ Some c.in-Some.index = search rules in
    let equal = (position-Some (λ x. is_at (g.K.Ord.cmp (g.T.Keyed.key x)) (g.T.Keyed.key c.args.item)) c.args.self.now.held c.in-Some.index c.args.item found).1 in
    sym (ap (λ o. is_eq o) (g.met.K.Ord.total.congr _ _ q ((Equal-is _).0 equal)))

pub returns-in-Some-clause-held : goal.returns-in-Some-clause-held
returns-in-Some-clause-held g c =
    let found : index_under (λ k. is_at (g.K.Ord.cmp k)) g.T.Keyed.key (g.T.Keyed.key c.args.item) c.args.self.now.held ≡ Some c.in-Some.index = search rules in
    c.replace.ensures.held ∙ sym (with_first-at (λ x. is_at (g.K.Ord.cmp (g.T.Keyed.key x)) (g.T.Keyed.key c.args.item)) c.args.item c.args.self.now.held c.in-Some.index found)

pub returns-in_default-clause-held : goal.returns-in_default-clause-held
returns-in_default-clause-held g c =
    let found : index_under (λ k. is_at (g.K.Ord.cmp k)) g.T.Keyed.key (g.T.Keyed.key c.args.item) c.args.self.now.held ≡ None = search rules in
    sym (with_first-same (λ x. is_at (g.K.Ord.cmp (g.T.Keyed.key x)) (g.T.Keyed.key c.args.item)) c.args.item c.args.self.now.held found)
