use Rattle.std.proofs.Common.{map}
use Rattle.lrs_sessions.specs.LrsHistoryEndings.{abandoned_jsons}
use Rattle.lrs_ids.specs.IdSupply.{left_of}
use Rattle.lrs_learning.proofs.Changes.{first_made}
use Rattle.lrs_learning.specs.Occasions.{supply_at}
use Rattle.lrs_sessions.specs.LrsMadeSuppliedProofs.{value_of}
use Rattle.lrs_sessions.specs.LrsPartsParts.{state_of}
use Rattle.lrs_sessions.specs.LrsStateState.{used_in}
use Rattle.lrs_learning.proofs.abandonments.said_of.Goals as goal

pub returns : goal.returns
returns c =
    let st = state_of c.args.parts.now in
    first_made c.make_under.new.made.items c.new-made.result.items (left_of (used_in st) c.in_ok-supply.supply) (supply_at st c.args.draw.now) c.args.moment (map value_of c.in_ok-said.said.items)
    (abandoned_jsons st c.args.numbers.now) c.new-made.ensures.items c.in_ok-said.ensures c.in_ok-supply.ensures c.in_ok-make_under.ensures.made
