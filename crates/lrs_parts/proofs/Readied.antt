-- What is kept of progress is ready for an effect.
use Rattle.std.proofs.Common.{◌≡◌, List, IfOk, IfSome, OnOk, Option, Some, None, Result, Ok, Err, subst, sym, Bor, option_copied}
use Rattle.std.specs.Prelude.{option_map}
use Rattle.std.proofs.lemmas.Option.{none-some, same_Some}
use Rattle.lrs_state.specs.Editions.{SeenEdition}
use Rattle.cmi5_running_sessions.specs.Room.{HasSlotsForEach}
use Rattle.cmi5_running_verdicts.specs.Running.{HasCounted, SeenRunning}
use Rattle.cmi5_running_sessions.specs.Cmi5SessionMarked.{MarkedStatement, marked}
use Rattle.cmi5_running_verdicts.specs.Cmi5VerdictNodes.{SeenEnrolment, seen}
use Rattle.cmi5_running_verdicts.specs.Cmi5VerdictEnrolmentEnrolment.{Enrolment}
use Rattle.lrs_parts.specs.Progress.{IsEnrolmentOf, IsProgressReadyFor, IsReadyToEnrol}
use Rattle.lrs_parts.specs.Trees.{AreTargets}
use Rattle.lrs_state.specs.declared.effect.Effect.{Effect}
use Rattle.lrs_state.specs.declared.founding.Founding.{Founding}
use Rattle.lrs_parts.specs.declared.progress.Progress.{Progress}
use Rattle.lrs_state.specs.declared.registrations.HeldRegistration.{HeldRegistration}
use Rattle.xapi_statement.specs.Stored.{StoredStatement}

-- what is known anyway
pub always : {T E X : Type 0} (r : Result T E) → X → IfOk r (λ _. X)
always (Ok t) x = x
always (Err e) x = tt

-- what holds of a value holds of it where it is lent
pub lent : {A : Type 0} (P : A → Type 0) (o : Option (Bor A)) → IfSome (option_copied o) P → IfSome o (λ (b : Bor A). P b.now)
lent P None holds = tt
lent P (Some b) holds = holds

-- what the statements say of it is counted
ready_with : (running : SeenRunning) (founding : Option Founding) (editions : List SeenEdition) (r : HeldRegistration) (those : List MarkedStatement) (enrolment : Option (Bor Enrolment))
    → IsEnrolmentOf founding editions r (option_map seen (option_copied enrolment)) → IfSome enrolment (λ (e : Bor Enrolment). HasCounted running those (seen e.now))
    → IsReadyToEnrol running founding editions r those
ready_with running founding editions r those None its counted = absurd (none-some its.0 its.2)
ready_with running founding editions r those (Some e) its counted = record {
  enrolment = its.0;
  enrolled = its.1;
  counted = subst (λ (x : SeenEnrolment). HasCounted running those x) (same_Some (seen e.now) its.0 its.2) counted;
}

pub readied : {T E : Type 0} (p : Progress) (founding : Option Founding) (editions : List SeenEdition) (statements : List StoredStatement) (effect : Effect) (enrolment : Option Enrolment)
    (given : Option (Bor Enrolment)) (coming : List StoredStatement) (result : Result T E) → option_copied given ≡ enrolment → coming ≡ effect.statements → effect.editions.replaced ≡ None
    → effect.registrations.replaced ≡ None → ((r : HeldRegistration) → effect.registrations.new ≡ Some r → IsEnrolmentOf founding editions r (option_map seen enrolment))
    → OnOk result (HasSlotsForEach p.sessions coming) → OnOk result (IfSome given (λ (e : Bor Enrolment). HasCounted p.running (marked statements) (seen e.now)))
    → OnOk result (AreTargets p.targets statements coming) → OnOk result (IsProgressReadyFor p founding editions statements effect)
readied p founding editions statements effect enrolment given coming (Ok t) is same editions_stay registrations_stay its slots counted trees = record {
  sessions = subst (λ (ss : List StoredStatement). HasSlotsForEach p.sessions ss) same slots;
  targets = subst (λ (ss : List StoredStatement). AreTargets p.targets statements ss) same trees;
  editions_stay = editions_stay;
  registrations_stay = registrations_stay;
  running = λ r comes.
      ready_with p.running founding editions r (marked statements) given
      (subst (λ (o : Option Enrolment). IsEnrolmentOf founding editions r (option_map seen o)) (sym is) (its r comes)) counted;
}
readied p founding editions statements effect enrolment given coming (Err e) is same editions_stay registrations_stay its slots counted trees = tt
