use Rattle.std.proofs.Common.{◌∙◌}
use Rattle.lrs_fold.proofs.Owed.{put_kept}
use Rattle.lrs_learning.specs.LrsPartsParts.{state_of}
use Rattle.lrs_fold.proofs.fold.Fold.put.Goals as goal

pub returns : goal.returns
returns c =
    c.writing_new.ensures
    ∙ put_kept (state_of c.args.self.now.parts) c.args.who c.args.moment c.args.draw.now c.args.id c.args.statement c.new-added.result.items c.push_new.new.added.items c.owe_behind_put.new.added.items
    c.new-added.ensures.items c.in_ok-push_new.ensures c.in_ok-owe_behind_put.ensures
