use Rattle.lrs_json.specs.Written.{written_tree}
use Rattle.lrs_json.proofs.Behind.{is_nothing_left, is_something_else}
use Rattle.lrs_json.proofs.matching.is_written.Goals as goal

pub returns-in-Some-clause-same : goal.returns-in-Some-clause-same
returns-in-Some-clause-same c = is_nothing_left (written_tree c.args.tree.now) c.args.bytes.now c.behind_tree.result c.in-Some.left c.is_empty.result c.behind_tree.ensures.left c.in-Some.is c.is_empty.ensures

pub returns-in-None-clause-same : goal.returns-in-None-clause-same
returns-in-None-clause-same c = is_something_else (written_tree c.args.tree.now) c.args.bytes.now c.behind_tree.result c.behind_tree.ensures.left c.in-None.is
