use Rattle.std.proofs.Common.{OnOk, subst}
use Rattle.lrs_ids.specs.Ids.{made_id, rest_of}
use Rattle.lrs_ids.specs.IdSupply.{GiveSame, IdSupply, left_of}
use Rattle.lrs_ids.proofs.supply.IdSupply.make.Goals as goal

pub returns-clause-left : goal.returns-clause-left
returns-clause-left g c =
    let used = g.U.UsedIds.used c.args.used.now in
    subst (λ (old : IdSupply). OnOk c.make_id.result (GiveSame (made_id used c.make_id.new.gone.keys c.make_id.new.most c.make_id.new.word) (rest_of (left_of used old)))) c.self.view_is c.make_id.ensures.left
