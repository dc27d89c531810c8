use Rattle.std.proofs.Common.{◌∙◌}
use Rattle.std.specs.BTreeMap.{is_at}
use Rattle.lrs_register.proofs.Firsts.{item-at, item-none}
use Rattle.lrs_register.proofs.register.Register.find.Goals as goal

pub returns-in-Some : goal.returns-in-Some
returns-in-Some g c =
    c.get.ensures ∙ item-at (λ x. is_at (g.K.Ord.cmp (g.T.Keyed.key x)) c.args.key.now) c.args.self.now.held c.index_of.result c.in-Some.index c.in-Some.is c.index_of.ensures

pub returns-in-None : goal.returns-in-None
returns-in-None g c = item-none (λ x. is_at (g.K.Ord.cmp (g.T.Keyed.key x)) c.args.key.now) c.args.self.now.held c.index_of.result c.in-None.is c.index_of.ensures
