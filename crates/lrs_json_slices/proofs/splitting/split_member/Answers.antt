use Rattle.lrs_json_slices.proofs.Splits.{member_split}
use Rattle.lrs_json_slices.proofs.splitting.split_member.Goals as goal

pub returns : goal.returns
returns c =
    member_split c.args.bytes.now c.split.result.0.now c.split.result.1.now c.behind_first.result.now c.split_item.result.0.now c.split_item.result.1.now
    c.split.ensures c.behind_first.ensures.behind c.split_item.ensures.value
