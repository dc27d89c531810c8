-- A token opens what the session of its launch may see, and nothing else.
use Rattle.std.proofs.Common.{◌≡◌, ℕ, List, [], ◌∷◌, Bool, true, false, not, Option, Some, None, refl, sym, ap, subst, ◌∙◌}
use Rattle.std.specs.Prelude.{if◌then◌else◌}
use Rattle.std.specs.Str.{bytes_eq}
use Rattle.cmi5_course.specs.declared.launch.Launch.{Launch}
use Rattle.cmi5_launch.specs.Names.{launch_data_state}
use Rattle.lrs_agents.specs.declared.identifiers.Ifi.{Ifi}
use Rattle.lrs_command.specs.Areas.{read_area}
use Rattle.lrs_command.specs.declared.command.Command.TheVariants as command
use Rattle.lrs_command.specs.declared.command.Read.{Read}
use Rattle.lrs_command.specs.declared.command.Read.TheVariants.{Documents}
use Rattle.lrs_command.specs.declared.who.Who.TheVariants as who
use Rattle.lrs_history.proofs.Strangers.{told_barred}
use Rattle.lrs_history.specs.Answers.{read_said, write_said}
use Rattle.lrs_history.specs.Effects.{effect}
use Rattle.lrs_history.specs.Occasions.{occasion}
use Rattle.lrs_history.specs.History.{answer, end_offset, next_entry, state}
use Rattle.lrs_history.specs.Refusals.{bad_form, barred_document, barred, conflict, missing, read_refusal, refusal, refused_inside, unmergeable}
use Rattle.lrs_history.specs.Sessions.{is_its_own, outside, over_state, overstepped}
use Rattle.lrs_history.specs.Whose.{known_as, launch_of, sight_in as sight_in_launch, sight_of}
use Rattle.lrs_ids.specs.Choices.{first_some, when}
use Rattle.lrs_laws.proofs.Accepting.{unrefused, unrefused_read}
use Rattle.lrs_laws.proofs.Again.{first_none, no_reason}
use Rattle.lrs_laws.proofs.GivenTokens.{token_given}
use Rattle.lrs_laws.proofs.Launched.{acting, session_launched}
use Rattle.lrs_laws.specs.Laws.{IsAccepted, who_in}
use Rattle.lrs_laws.specs.Sessions.{ActsInSession, OtherTokensAreUnknown, SessionTokensWereGiven, SessionsAreBarredFromTheDesk, SessionsAreLaunched, SessionsKeepLaunchData, SessionsKeepToTheirDocuments, SessionsSeeTheirRegistration}
use Rattle.lrs_names.specs.declared.draw.Draw.{Draw}
use Rattle.lrs_state.specs.Launches.{launch_of_token}
use Rattle.lrs_state.specs.Providers.{index_of_token}
use Rattle.lrs_state.specs.State.{changes_nothing}
use Rattle.lrs_record.specs.Writes.{write_area}
use Rattle.lrs_record.specs.declared.entry.Area.TheVariants.{Desk}
use Rattle.lrs_record.specs.declared.entry.Caller.{Caller}
use Rattle.lrs_record.specs.declared.entry.Entry.{Entry}
use Rattle.lrs_record.specs.declared.entry.Write.{Write}
use Rattle.lrs_record.specs.declared.entry.Write.TheVariants.{Drop}
use Rattle.lrs_record.specs.declared.entry.Write.TheVariants as write
use Rattle.lrs_replies.specs.declared.answered.Refusal.{Refusal}
use Rattle.lrs_replies.specs.declared.answered.Refusal.TheVariants.{Forbidden}
use Rattle.lrs_rules.specs.declared.rule.Rule.TheVariants as rule
use Rattle.xapi_keys.specs.declared.wanted.WantedDocuments.TheVariants.{One, Ids}
use Rattle.xapi_query.specs.Filters.{sees}

-- ---- tokens

pub sessions_are_launched : SessionsAreLaunched
sessions_are_launched h caller k is = let found = session_launched h caller k is in (found.0, record { index = k; known = is; launched = found.1 })

pub session_tokens_were_given : SessionTokensWereGiven
session_tokens_were_given h token launch acts = token_given h token acts.index (acting (state h) token acts.index acts.known)

pub other_tokens_are_unknown : OtherTokensAreUnknown
other_tokens_are_unknown h token no_admin no_provider ungiven =
    ap (λ b. if b then who.Admin else known_as (index_of_token token (state h).providers) (launch_of_token token (state h).tokens)) no_admin
    ∙ (ap (λ o. known_as o (launch_of_token token (state h).tokens)) no_provider ∙ by_launch (launch_of_token token (state h).tokens) refl)
  where
    by_launch : (o : Option ℕ) → launch_of_token token (state h).tokens ≡ o → known_as None o ≡ who.Unknown
    by_launch None is = refl
    by_launch (Some k) is = absurd (ungiven (token_given h token k is))

-- ---- what is seen

pub sessions_see_their_registration : SessionsSeeTheirRegistration
sessions_see_their_registration h caller launch acts s =
    ap (λ by. sees (sight_of (state h) by) s) acts.known ∙ ap (λ o. sees (sight_in_launch o) s) acts.launched

pub sessions_are_barred_from_the_desk : SessionsAreBarredFromTheDesk
sessions_are_barred_from_the_desk limit h caller launch c clock draw acts at_desk =
    told_barred limit h caller c clock draw (Forbidden (rule.A 2)) (ap (λ area. barred area (who_in h caller)) at_desk ∙ ap (barred Desk) acts.known)

-- ---- documents

-- who isn't outside has its own
own_by : (b : Bool) (r : Refusal) → when (not b) r ≡ None → b ≡ true
own_by true r is = refl
own_by false r is = cc is

not_outside : (launch : Launch) (o : Option Launch) (agent : Ifi) (registration : Option (List ℕ)) → o ≡ Some launch → outside o agent registration ≡ None → is_its_own launch agent registration ≡ true
not_outside launch o agent registration is inside = own_by (is_its_own launch agent registration) (Forbidden (rule.A 3)) (sym (ap (λ l. outside l agent registration) is) ∙ inside)

not_overstepped : (launch : Launch) (o : Option Launch) (agent : Ifi) (registration chosen : Option (List ℕ)) → o ≡ Some launch → overstepped o agent registration chosen ≡ None → is_its_own launch agent registration ≡ true
not_overstepped launch o agent registration chosen is within =
    not_outside launch (Some launch) agent registration refl
    (first_none (outside (Some launch) agent registration) (first_some (over_state chosen ∷ [])) (sym (ap (λ l. overstepped l agent registration chosen) is) ∙ within)).0

-- nor does it change what its launch wrote
spared : (launch : Launch) (o : Option Launch) (agent : Ifi) (registration chosen : Option (List ℕ)) → o ≡ Some launch → overstepped o agent registration chosen ≡ None → over_state chosen ≡ None
spared launch o agent registration chosen is within =
    (first_none (over_state chosen) None
    (first_none (outside (Some launch) agent registration) (first_some (over_state chosen ∷ [])) (sym (ap (λ l. overstepped l agent registration chosen) is) ∙ within)).1).0

abbrev IsOther : Option (List ℕ) → Type 0
IsOther chosen = (state : List ℕ) × (chosen ≡ Some state) × (bytes_eq state launch_data_state ≡ false)

other_state : (chosen : Option (List ℕ)) → over_state chosen ≡ None → IsOther chosen
other_state None is = cc is
other_state (Some state) is = (state, refl, by_same (bytes_eq state launch_data_state) is)
  where
    by_same : (b : Bool) → when b (Forbidden (rule.A 4)) ≡ None → b ≡ false
    by_same true at = cc at
    by_same false at = refl

-- the launch of the session
its_launch : (h : List Entry) (caller : Caller) (launch : Launch) → ActsInSession h caller launch → launch_of (state h) (who_in h caller) ≡ Some launch
its_launch h caller launch acts = ap (launch_of (state h)) acts.known ∙ acts.launched

-- a write that isn't refused oversteps no session
right_document : (limit : ℕ) (h : List Entry) (caller : Caller) (w : Write) (clock : ℕ) (draw : Draw) → IsAccepted (answer limit h caller (command.Write w) clock draw) → barred_document (state h) (who_in h caller) w ≡ None
right_document limit h caller w clock draw is =
    let st = state h in
    let x : Entry = next_entry st caller w clock draw in
    let free = unrefused limit (end_offset limit h) x (write_said (effect st x)) (refusal st x) (when (changes_nothing (effect st x)) (write_said (effect st x))) is in
    (no_reason (barred (write_area w) (who_in h caller) ∷ bad_form w ∷ barred_document st (who_in h caller) w ∷ missing st w ∷ unmergeable st w ∷ conflict st (occasion st x) w ∷ []) free).1.1.0

-- what a question that isn't refused asks for is inside
right_question : (limit : ℕ) (h : List Entry) (caller : Caller) (r : Read) (clock : ℕ) (draw : Draw) → IsAccepted (answer limit h caller (command.Read r) clock draw) → refused_inside (state h) (who_in h caller) r ≡ None
right_question limit h caller r clock draw is =
    let by = who_in h caller in
    (first_none (barred (read_area r) by) (refused_inside (state h) by r) (unrefused_read (read_refusal (state h) by r) (read_said (state h) by r) is)).1

the_same : (a b : Ifi × Option (List ℕ)) → Some a ≡ Some b → a ≡ b
the_same a b is = cc is

pub sessions_keep_to_their_documents : SessionsKeepToTheirDocuments
sessions_keep_to_their_documents limit h caller launch (command.Write (write.State how key media bytes)) clock draw agent registration acts asks is =
    subst (λ (p : Ifi × Option (List ℕ)). is_its_own launch p.0 p.1 ≡ true) (the_same (key.agent, key.registration) (agent, registration) asks)
    (not_overstepped launch (launch_of (state h) (who_in h caller)) key.agent key.registration (Some key.state) (its_launch h caller launch acts) (right_document limit h caller (write.State how key media bytes) clock draw is))
sessions_keep_to_their_documents limit h caller launch (command.Write (Drop activity whose theirs chosen)) clock draw agent registration acts asks is =
    subst (λ (p : Ifi × Option (List ℕ)). is_its_own launch p.0 p.1 ≡ true) (the_same (whose, theirs) (agent, registration) asks)
    (not_overstepped launch (launch_of (state h) (who_in h caller)) whose theirs chosen (its_launch h caller launch acts) (right_document limit h caller (Drop activity whose theirs chosen) clock draw is))
sessions_keep_to_their_documents limit h caller launch (command.Read (Documents (One key))) clock draw agent registration acts asks is =
    subst (λ (p : Ifi × Option (List ℕ)). is_its_own launch p.0 p.1 ≡ true) (the_same (key.agent, key.registration) (agent, registration) asks)
    (not_outside launch (launch_of (state h) (who_in h caller)) key.agent key.registration (its_launch h caller launch acts)
    (first_none (outside (launch_of (state h) (who_in h caller)) key.agent key.registration) None (right_question limit h caller (Documents (One key)) clock draw is)).0)
sessions_keep_to_their_documents limit h caller launch (command.Read (Documents (Ids activity whose theirs since))) clock draw agent registration acts asks is =
    subst (λ (p : Ifi × Option (List ℕ)). is_its_own launch p.0 p.1 ≡ true) (the_same (whose, theirs) (agent, registration) asks)
    (not_outside launch (launch_of (state h) (who_in h caller)) whose theirs (its_launch h caller launch acts)
    (first_none (outside (launch_of (state h) (who_in h caller)) whose theirs) None (right_question limit h caller (Documents (Ids activity whose theirs since)) clock draw is)).0)
sessions_keep_to_their_documents limit h caller launch other clock draw agent registration acts asks is = cc asks

same_choice : (a b : Option (List ℕ)) → Some a ≡ Some b → a ≡ b
same_choice a b is = cc is

pub sessions_keep_launch_data : SessionsKeepLaunchData
sessions_keep_launch_data limit h caller launch (command.Write (write.State how key media bytes)) clock draw chosen acts asks is =
    subst IsOther (same_choice (Some key.state) chosen asks)
    (other_state (Some key.state) (spared launch (launch_of (state h) (who_in h caller)) key.agent key.registration (Some key.state) (its_launch h caller launch acts)
    (right_document limit h caller (write.State how key media bytes) clock draw is)))
sessions_keep_launch_data limit h caller launch (command.Write (Drop activity whose theirs dropped)) clock draw chosen acts asks is =
    subst IsOther (same_choice dropped chosen asks)
    (other_state dropped (spared launch (launch_of (state h) (who_in h caller)) whose theirs dropped (its_launch h caller launch acts)
    (right_document limit h caller (Drop activity whose theirs dropped) clock draw is)))
sessions_keep_launch_data limit h caller launch other clock draw chosen acts asks is = cc asks
