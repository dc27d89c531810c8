use Rattle.lrs_json.specs.View.{view}
use Rattle.xapi_rules.specs.Rules.{statement_faults}
use Rattle.lrs_names.proofs.RuleLemmas.{ok_least}
use Rattle.xapi_rules.proofs.rules.broken_rule.Goals as goal

pub returns-clause-least : goal.returns-clause-least
returns-clause-least c = ok_least (statement_faults (view c.args.tree.now)) c.judge.result c.judge.ensures
