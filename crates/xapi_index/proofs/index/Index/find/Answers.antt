use Rattle.std.proofs.Common.{◌∙◌}
use Rattle.std.specs.Str.{bytes_eq}
use Rattle.lrs_register.proofs.Firsts.{item-at, item-none}
use Rattle.xapi_index.proofs.index.Index.find.Goals as goal

pub returns-in-Some : goal.returns-in-Some
returns-in-Some c = c.get.ensures ∙ item-at (λ s. bytes_eq s.id c.args.id.now) c.args.self.now.held c.position_of.result c.in-Some.position c.in-Some.is c.position_of.ensures

pub returns-in-None : goal.returns-in-None
returns-in-None c = item-none (λ s. bytes_eq s.id c.args.id.now) c.args.self.now.held c.position_of.result c.in-None.is c.position_of.ensures
