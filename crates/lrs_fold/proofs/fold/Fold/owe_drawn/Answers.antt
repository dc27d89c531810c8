use Rattle.std.proofs.Common.{◌≡◌, ◌∷◌, [], ◌++◌, OnOk, subst}
use Rattle.lrs_fold.proofs.Owed.{supply_same}
use Rattle.lrs_reads.specs.LrsHistoryEnrolments.{enrolled}
use Rattle.lrs_reads.specs.LrsHistoryMade.{owed_made}
use Rattle.lrs_ids.specs.IdSupply.{left_of}
use Rattle.lrs_ids.specs.Ids.{Supply, supply_of}
use Rattle.lrs_learning.specs.LrsPartsParts.{state_of}
use Rattle.lrs_learning.specs.LrsStateState.{used_in}
use Rattle.lrs_fold.proofs.fold.Fold.owe_drawn.Goals as goal

pub returns : goal.returns
returns c =
    let st = state_of c.args.self.now.parts in
    let launch = c.args.launch.now in
    let before = c.args.added.now.items in
    subst (λ (supply : Supply). OnOk c.owe.result (c.owe.new.added.items ≡ before ++ owed_made st launch.session supply c.args.moment before (enrolled st launch.registration)))
    (supply_same (left_of (used_in st) c.in_ok-supply.supply) (supply_of (used_in st) (c.args.id.now ∷ []) c.args.draw.now.name) c.in_ok-supply.ensures) c.owe.ensures
