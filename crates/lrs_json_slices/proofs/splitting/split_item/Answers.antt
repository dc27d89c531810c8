use Rattle.lrs_json_slices.proofs.Splits.{item_split, value_split}
use Rattle.lrs_json_slices.proofs.splitting.split_item.Goals as goal

pub returns-clause-item : goal.returns-clause-item
returns-clause-item c = item_split c.args.bytes.now c.split.result.0.now c.split.result.1.now c.behind_comma.result.now c.split.ensures c.behind_comma.ensures

pub returns-clause-value : goal.returns-clause-value
returns-clause-value c = value_split c.args.bytes.now c.split.result.0.now c.split.result.1.now c.behind_comma.result.now c.split.ensures c.behind_comma.ensures
