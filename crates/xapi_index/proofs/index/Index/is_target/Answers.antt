use Rattle.std.proofs.Common.{◌∙◌}
use Rattle.xapi_postings.specs.XapiStatementStatements.{voids}
use Rattle.xapi_index.proofs.Firsts.{any_index}
use Rattle.xapi_index.proofs.index.Index.is_target.Goals as goal

pub returns : goal.returns
returns c = c.is_some.ensures ∙ any_index (voids c.args.id.now) c.args.self.now.held c.voiding.result c.voiding.ensures
