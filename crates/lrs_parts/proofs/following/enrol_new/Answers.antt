use Rattle.std.proofs.Common.{◌∙◌, Option, subst, sym}
use Rattle.lrs_parts.specs.Progress.{AreCounted, IsReadyToEnrol}
use Rattle.lrs_state.specs.declared.registrations.HeldRegistration.{HeldRegistration}
use Rattle.lrs_parts.proofs.Enrolling.{counted_more}
use Rattle.lrs_parts.proofs.Voided.{some_item}
use Rattle.lrs_register.specs.Register.{with_new}
use Rattle.lrs_parts.proofs.following.enrol_new.Goals as goal
use Rattle.xapi_docs.proofs.Back.{none_of}

pub enrol-requires : goal.enrol-requires
enrol-requires c =
    let it = some_item c.args.coming.now (sym c.is_some.ensures ∙ c.if-is_some.true) in c.requires it.0 it.1

pub returns-then-is_some : goal.returns-then-is_some
returns-then-is_some c = λ founding editions registrations those ready counted.
    let it = some_item c.args.coming.now (sym c.is_some.ensures ∙ c.if-is_some.true) in
    let its : IsReadyToEnrol c.args.running.now founding editions it.0 those = ready it.0 it.1 in
    subst (λ (o : Option HeldRegistration). AreCounted c.enrol.new.self founding editions (with_new registrations o) those) (sym it.1)
    (counted_more c.args.running.now c.enrol.new.self founding editions registrations those it.0 its.enrolment its.enrolled (c.enrol.ensures.stands those its.enrolment its.counted)
    c.enrol.ensures.others c.enrol.ensures.long counted)

pub returns-else-is_some : goal.returns-else-is_some
returns-else-is_some c = λ founding editions registrations those ready counted.
    subst (λ (o : Option HeldRegistration). AreCounted c.args.running.now founding editions (with_new registrations o) those)
    (sym (none_of c.args.coming.now (sym c.is_some.ensures ∙ c.if-is_some.false))) counted
