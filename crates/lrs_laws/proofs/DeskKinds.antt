-- What a write of the desk can do: what holds of each such effect holds of the write's.
use Rattle.std.proofs.Common.{◌≡◌, ℕ, List, [], ◌∷◌, Bool, true, false, Option, Some, None, refl}
use Rattle.std.specs.Prelude.{if◌then◌else◌}
use Rattle.cmi5_course.specs.declared.launch.Mode.{Mode}
use Rattle.cmi5_course.specs.declared.reason.Reason.{Reason}
use Rattle.lrs_agents.specs.declared.agents.Agent.{Agent}
use Rattle.lrs_history.specs.DeskEffects.{abandoning_each, abandoning_one, enrolling, enrolling_as, fetching, giving, is_waived, launching, launching_behind, telling, waiving, waiving_as}
use Rattle.lrs_history.specs.Endings.{is_open, open_of}
use Rattle.lrs_history.specs.Launches.{Target, activity_at}
use Rattle.lrs_history.specs.Made.{waived_at}
use Rattle.lrs_history.specs.Occasions.{Occasion}
use Rattle.lrs_history.specs.Sessions.{is_closed}
use Rattle.lrs_ids.specs.Ids.{rest_of}
use Rattle.lrs_state.specs.State.{State, no_change}
use Rattle.lrs_state.specs.declared.acceptance.Acceptance.{Acceptance}
use Rattle.lrs_state.specs.declared.acceptance.Acceptance.TheVariants as acceptance
use Rattle.lrs_state.specs.declared.effect.Effect.{Effect}
use Rattle.lrs_state.specs.declared.launches.HeldKey.{HeldKey}

-- the unit is waived, behind what the statement of it says
abbrev pub waived_by : State → Occasion → Reason → Target → Effect
waived_by st at why t = waiving_as st at t (waived_at t why (at.supply 0) (rest_of at.supply) at.moment)

-- the unit is launched, and its open sessions are abandoned
abbrev pub launched_by : State → Occasion → Mode → Option (List ℕ) → Target → Effect
launched_by st at mode return_url t = launching_behind st at mode return_url t (open_of st t.registration.id (activity_at t))

module _ (P : Effect → Type 0) (st : State) (at : Occasion) (none : P (no_change at.moment)) where
  pub of_enrolment : (actor : Agent) (o : Option ℕ) → ((edition : ℕ) → P (enrolling_as st at (record { id = at.supply 0; edition = edition; actor = actor }))) → P (enrolling st at actor o)
  of_enrolment actor None each = none
  of_enrolment actor (Some edition) each = each edition

  pub of_launch : (mode : Mode) (return_url : Option (List ℕ)) (o : Option Target) → ((t : Target) → P (launched_by st at mode return_url t)) → P (launching st at mode return_url o)
  of_launch mode return_url None each = none
  of_launch mode return_url (Some t) each = each t

  pub of_waiver : (why : Reason) (o : Option Target) → ((t : Target) → o ≡ Some t → P (waived_by st at why t)) → P (waiving st at why o)
  of_waiver why None each = none
  of_waiver why (Some t) each = by_waived (is_waived st t)
    where
      by_waived : (b : Bool) → P (if b then no_change at.moment else waived_by st at why t)
      by_waived true = none
      by_waived false = each t refl

  pub of_ending : (o : Option ℕ) → ((numbers : List ℕ) → P (abandoning_each st at numbers)) → P (abandoning_one st at o)
  of_ending None each = none
  of_ending (Some number) each = by_open (is_open st number)
    where
      by_open : (b : Bool) → P (if b then abandoning_each st at (number ∷ []) else no_change at.moment)
      by_open true = each (number ∷ [])
      by_open false = none

  pub of_fetch : (o : Option HeldKey) → ((told : Acceptance) → P (telling at.moment told)) → ((key : HeldKey) → o ≡ Some key → key.fetched ≡ false → is_closed st key.launch ≡ false → P (giving at key))
      → P (fetching st at o)
  of_fetch None told each = none
  of_fetch (Some key) told each = by_use key.fetched refl
    where
      by_end : (b : Bool) → is_closed st key.launch ≡ b → key.fetched ≡ false → P (if b then telling at.moment acceptance.SessionClosed else giving at key)
      by_end true closed unused = told acceptance.SessionClosed
      by_end false still unused = each key refl unused still

      by_use : (b : Bool) → key.fetched ≡ b
          → P (if b then telling at.moment acceptance.KeyUsed else (if is_closed st key.launch then telling at.moment acceptance.SessionClosed else giving at key))
      by_use true used = told acceptance.KeyUsed
      by_use false unused = by_end (is_closed st key.launch) refl unused
