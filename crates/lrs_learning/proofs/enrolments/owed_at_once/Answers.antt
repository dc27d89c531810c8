use Rattle.std.proofs.Common.{Option, IfSome, subst, sym}
use Rattle.lrs_sessions.specs.LrsMadeLent.{IsLentBy}
use Rattle.lrs_sessions.specs.LrsMadeEnrolmentsLentEnrolled.{LentEnrolled}
use Rattle.lrs_sessions.specs.LrsPartsParts.{state_of}
use Rattle.lrs_learning.proofs.enrolments.owed_at_once.Goals as goal

pub add_owed-requires : goal.add_owed-requires
add_owed-requires c =
    subst (λ (o : Option LentEnrolled). IfSome o (λ (e : LentEnrolled). IsLentBy (state_of c.args.parts.now) e)) (sym c.as_ref.ensures.value) c.enrolled_as-enrolled.ensures.lent
