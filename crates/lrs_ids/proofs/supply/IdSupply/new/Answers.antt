use Rattle.std.proofs.Common.{◌+◌, ap, length}
use Rattle.lrs_ids.proofs.MadeIds.{made_id-begin}
use Rattle.lrs_ids.proofs.supply.IdSupply.new.Goals as goal

pub returns : goal.returns
returns g c = made_id-begin (g.U.UsedIds.used c.args.used.now) c.in_ok-gone.gone.keys c.args.given.now (c.count.result + length c.args.given.now) c.args.name c.in_ok-gone.ensures
    (ap (λ n. n + length c.args.given.now) c.count.ensures.count)
