use Rattle.std.proofs.Common.{◌≡◌, ◌++◌, Option, IfSome, OnOk, ap, sym, ◌∙◌, subst}
use Rattle.std.specs.Prelude.{option_map}
use Rattle.lrs_reads.specs.LrsHistoryEnrolments.{Enrolled}
use Rattle.lrs_reads.specs.LrsHistoryMade.{owed_made}
use Rattle.lrs_ids.specs.IdSupply.{left_of}
use Rattle.lrs_reads.specs.LrsMadeLent.{IsLentBy, seen_enrolled}
use Rattle.lrs_reads.specs.LrsMadeEnrolmentsLentEnrolled.{LentEnrolled}
use Rattle.lrs_learning.specs.LrsPartsParts.{state_of}
use Rattle.lrs_learning.specs.LrsStateState.{used_in}
use Rattle.lrs_fold.proofs.fold.Fold.owe.Goals as goal

pub add_owed-requires : goal.add_owed-requires
add_owed-requires c =
    subst (λ (o : Option LentEnrolled). IfSome o (λ (e : LentEnrolled). IsLentBy (state_of c.args.self.now.parts) e)) (sym c.as_ref.ensures.value) c.enrolled-known.ensures.lent

pub returns : goal.returns
returns c =
    let st = state_of c.args.self.now.parts in
    let before = c.args.added.now.items in
    subst (λ (known : Option Enrolled). OnOk c.add_owed.result (c.add_owed.new.made.items ≡ before ++ owed_made st c.args.launch.now.session (left_of (used_in st) c.args.supply.now) c.args.moment before known))
    (ap (option_map seen_enrolled) c.as_ref.ensures.value ∙ c.enrolled-known.ensures.found) c.add_owed.ensures.made
