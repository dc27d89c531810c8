use Rattle.std.proofs.Common.{refl}
use Rattle.lrs_ids.proofs.MadeIds.{made_id-rest}
use Rattle.lrs_ids.proofs.supply.make_id.Goals as goal

pub returns-clause-left : goal.returns-clause-left
returns-clause-left g c = made_id-rest (g.U.UsedIds.used c.args.used.now) c.args.gone.now.keys c.add_id.new.ids.keys c.args.most.now c.args.word.now c.free_word-made.result _ c.of_word-id.result
    c.free_word-made.ensures.free c.of_word-id.ensures.made refl c.in_ok-_new.ensures.added
