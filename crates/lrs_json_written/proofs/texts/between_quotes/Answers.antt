use Rattle.std.proofs.Common.{[], ◌∷◌}
use Rattle.lrs_json_written.proofs.Strings.{comes, plain_quoted}
use Rattle.lrs_json_written.proofs.texts.between_quotes.Goals as goal

pub returns : goal.returns
returns c =
    plain_quoted c.args.bytes.now c.in_ok-inside.inside.now c.split_at.result.0.now c.split_at.result.1.now c.in_ok-left.left.now c.plain_len.result c.plain_len.ensures.value c.split_at.ensures.front c.split_at.ensures.back
    (comes (34 ∷ []) c.args.bytes.now c.behind.result c.in_ok-inside.inside c.behind.ensures c.in_ok-inside.was)
    (comes (34 ∷ []) c.split_at.result.1.now c.behind-2.result c.in_ok-left.left c.behind-2.ensures c.in_ok-left.was)
