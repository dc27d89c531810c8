use Rattle.lrs_json_written.proofs.Readings.{all_readable, each_found, trees_found}
use Rattle.lrs_json_written.proofs.reading.read_trees.Goals as goal

pub returns-clause-found : goal.returns-clause-found
returns-clause-found c = each_found c.args.depth _ _ _ c.items.ensures.found

pub returns-clause-all : goal.returns-clause-all
returns-clause-all c = λ ts rest ok e. trees_found _ rest ts _ (c.items.ensures.all _ rest (all_readable c.args.depth ts ok) e)
