use Rattle.std.proofs.Common.{ap, length, arith}
use Rattle.xapi_statement.proofs.Sizes.{quoted_short}
use Rattle.xapi_statement.proofs.length.least_room_behind_text.Goals as goal

pub returns : goal.returns
returns c =
    let as_long = ap length c.as_bytes.ensures.lent in
    omega (arith, quoted_short c.args.text.now, as_long)
