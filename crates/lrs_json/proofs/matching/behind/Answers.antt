use Rattle.lrs_json.proofs.Behind.{stripped}
use Rattle.lrs_json.proofs.matching.behind.Goals as goal

pub returns : goal.returns
returns c = stripped c.args.word.now c.args.bytes.now c.strip_prefix.result c.strip_prefix.ensures.cases
