use Rattle.std.proofs.Common.{◌≡◌, [], false, arith, refl, sym}
use Rattle.std.specs.Prelude.{slice_index_or}
use Rattle.std.proofs.lemmas.Grind.{common_steps}
use Rattle.lrs_json.specs.View.{view}
use Rattle.lrs_names.specs.Members.{has_member_that, is_string}
use Rattle.lrs_bodies.proofs.StringBodies.{text_missing}
use Rattle.lrs_bodies.proofs.strings.texts_of.Goals as goal

pub returns-in-None : goal.returns-in-None
returns-in-None c =
    let name = (slice_index_or c.args.members.now c.loop-member.member-index (record { ref_ptr = (0, 0); now = [] }, 0)).0.now in
    let unlike : has_member_that name is_string (view c.args.tree.now) ≡ false = text_missing name (view c.args.tree.now) (sym c.in-None.ensures) in
    (grind (arith, common_steps, unlike, c.loop-member.invariant.rules), refl)
