use Rattle.std.proofs.Common.{List, [], ◌∷◌, ◌++◌, ◌∙◌, Option, IfSome, ap, subst, sym}
use Rattle.std.specs.Prelude.{option_map}
use Rattle.lrs_sessions.specs.LrsHistoryEnrolments.{enrolled_as}
use Rattle.lrs_sessions.specs.LrsHistoryMade.{made_under}
use Rattle.lrs_ids.specs.Ids.{rest_of}
use Rattle.lrs_ids.specs.IdSupply.{left_of}
use Rattle.lrs_json.specs.View.{view}
use Rattle.lrs_learning.proofs.Changes.{owed_behind_waived}
use Rattle.lrs_sessions.specs.LrsMadeLent.{IsLentBy, seen_enrolled, seen_target}
use Rattle.lrs_sessions.specs.LrsMadeEnrolmentsLentEnrolled.{LentEnrolled}
use Rattle.lrs_sessions.specs.LrsPartsParts.{state_of}
use Rattle.lrs_sessions.specs.LrsStateState.{used_in}
use Rattle.xapi_statement.specs.Stored.{StoredStatement}
use Rattle.lrs_learning.proofs.waivers.with_owed.Goals as goal

pub add_owed-requires : goal.add_owed-requires
add_owed-requires c =
    subst (λ (o : Option LentEnrolled). IfSome o (λ (e : LentEnrolled). IsLentBy (state_of c.args.parts.now) e)) (sym c.as_ref.ensures.value) c.enrolled_as-enrolled.ensures.lent

pub returns : goal.returns
returns c =
    let st = state_of c.args.parts.now in
    let s = left_of (used_in st) c.args.supply.now in
    let waived : List StoredStatement = made_under s c.args.moment (view c.args.said.tree ∷ []) in
    owed_behind_waived st c.args.session.now (left_of (used_in st) c.make_one.new.supply) (rest_of s) c.args.moment c.add_owed.new.made.items c.make_one.new.made.items
    waived _ (enrolled_as st (seen_target c.args.target.now).registration)
    (c.in_ok-make_one.ensures.made ∙ ap (λ (xs : List StoredStatement). xs ++ waived) c.new-made.ensures.items) c.in_ok-make_one.ensures.left
    (ap (option_map seen_enrolled) c.as_ref.ensures.value ∙ c.enrolled_as-enrolled.ensures.found) c.in_ok-add_owed.ensures.made
