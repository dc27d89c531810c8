use Rattle.std.proofs.Common.{◌∙◌, ap, sym, false, nat_lt}
use Rattle.std.specs.Option.{option_map_or}
use Rattle.xapi_postings.specs.XapiStatementStatements.{voids}
use Rattle.xapi_index.proofs.Firsts.{any_first}
use Rattle.xapi_index.proofs.index.Index.is_target_in.Goals as goal

pub returns-in-Some : goal.returns-in-Some
returns-in-Some c =
    ap (λ o. option_map_or (λ k. nat_lt k c.args.n) o false) (sym c.in-Some.is) ∙ any_first (voids c.args.id.now) c.args.n c.args.self.now.held c.voiding.result c.voiding.ensures

pub returns-in-None : goal.returns-in-None
returns-in-None c =
    ap (λ o. option_map_or (λ k. nat_lt k c.args.n) o false) (sym c.in-None.is) ∙ any_first (voids c.args.id.now) c.args.n c.args.self.now.held c.voiding.result c.voiding.ensures
