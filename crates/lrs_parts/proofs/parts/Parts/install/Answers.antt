-- Each part takes its change in, and what is kept of progress follows.
use Rattle.std.proofs.Common.{◌+◌, ◌∙◌, List, ap, refl, subst, sym}
use Rattle.cmi5_running_sessions.specs.Room.{HasSlotsForEach}
use Rattle.cmi5_running_sessions.specs.Cmi5SessionMarked.{marked}
use Rattle.lrs_state.specs.Courses.{courses_after}
use Rattle.lrs_state.specs.Editions.{editions_after}
use Rattle.lrs_state.specs.Founding.{founding_after}
use Rattle.lrs_state.specs.Launches.{keys_after, launches_after, tokens_after}
use Rattle.lrs_parts.specs.Parts.{IsReadyFor, SeenParts}
use Rattle.lrs_state.specs.Providers.{providers_after}
use Rattle.lrs_state.specs.Registrations.{registrations_after}
use Rattle.lrs_state.specs.Sessions.{made_sessions_after, sessions_after}
use Rattle.lrs_parts.specs.Trees.{AreTargets}
use Rattle.lrs_parts.proofs.Enrolling.{ready_on}
use Rattle.lrs_parts.proofs.Kept.{kept_enrolled, same_states}
use Rattle.xapi_docs.specs.Changes.{documents_after}
use Rattle.xapi_docs.specs.Docs.{documents_in}
use Rattle.cmi5_running_verdicts.specs.XapiIndexIndex.{IsIndexReadyFor}
use Rattle.xapi_statement.specs.Statements.{add_each}
use Rattle.xapi_statement.specs.Stored.{StoredStatement}
use Rattle.lrs_parts.proofs.parts.Parts.install.Goals as goal

-- ---- room

pub install-requires : goal.install-requires
install-requires c =
    let ready = subst (λ (v : SeenParts). IsReadyFor v c.args.effect) (sym c.self.view_is) c.requires in ready.learning.editions

pub install-requires-2 : goal.install-requires-2
install-requires-2 c =
    let ready = subst (λ (v : SeenParts). IsReadyFor v c.args.effect) (sym c.self.view_is) c.requires in ready.learning.registrations

pub take_in_each-voided-requires-clause-ready : goal.take_in_each-voided-requires-clause-ready
take_in_each-voided-requires-clause-ready c =
    let ready = subst (λ (v : SeenParts). IsReadyFor v c.args.effect) (sym c.self.view_is) c.requires in
    subst (λ (ss : List StoredStatement). IsIndexReadyFor c.self.inside.statements ss) (sym c.as_slice.ensures) ready.statements

pub take_in_each-voided-requires-clause-slots : goal.take_in_each-voided-requires-clause-slots
take_in_each-voided-requires-clause-slots c =
    let ready = subst (λ (v : SeenParts). IsReadyFor v c.args.effect) (sym c.self.view_is) c.requires in
    subst (λ (ss : List StoredStatement). HasSlotsForEach c.self.inside.progress.sessions ss) (sym c.as_slice.ensures) ready.progress.sessions

pub take_in_each-voided-requires-clause-targets : goal.take_in_each-voided-requires-clause-targets
take_in_each-voided-requires-clause-targets c =
    let ready = subst (λ (v : SeenParts). IsReadyFor v c.args.effect) (sym c.self.view_is) c.requires in
    subst (λ (ss : List StoredStatement). AreTargets c.self.inside.progress.targets c.self.inside.statements.held ss) (sym c.as_slice.ensures) ready.progress.targets

pub install-requires-3 : goal.install-requires-3
install-requires-3 c =
    let ready = subst (λ (v : SeenParts). IsReadyFor v c.args.effect) (sym c.self.view_is) c.requires in ready.providers

pub install_change-requires : goal.install_change-requires
install_change-requires c =
    let ready = subst (λ (v : SeenParts). IsReadyFor v c.args.effect) (sym c.self.view_is) c.requires in ready.documents

pub install-requires-4 : goal.install-requires-4
install-requires-4 c =
    let ready = subst (λ (v : SeenParts). IsReadyFor v c.args.effect) (sym c.self.view_is) c.requires in ready.learning.launches

pub install-requires-5 : goal.install-requires-5
install-requires-5 c =
    let ready = subst (λ (v : SeenParts). IsReadyFor v c.args.effect) (sym c.self.view_is) c.requires in ready.learning.sessions

pub install-requires-6 : goal.install-requires-6
install-requires-6 c =
    let ready = subst (λ (v : SeenParts). IsReadyFor v c.args.effect) (sym c.self.view_is) c.requires in ready.learning.made_sessions

pub install-requires-7 : goal.install-requires-7
install-requires-7 c =
    let ready = subst (λ (v : SeenParts). IsReadyFor v c.args.effect) (sym c.self.view_is) c.requires in ready.learning.keys

pub install-requires-8 : goal.install-requires-8
install-requires-8 c =
    let ready = subst (λ (v : SeenParts). IsReadyFor v c.args.effect) (sym c.self.view_is) c.requires in ready.learning.tokens

pub install-requires-9 : goal.install-requires-9
install-requires-9 c =
    let ready = subst (λ (v : SeenParts). IsReadyFor v c.args.effect) (sym c.self.view_is) c.requires in ready.learning.courses

-- ---- what is kept

pub enrol_new-requires : goal.enrol_new-requires
enrol_new-requires c = λ r comes.
    let ready = subst (λ (v : SeenParts). IsReadyFor v c.args.effect) (sym c.self.view_is) c.requires in
    let its = ready.progress.running r comes in
    (marked c.self.inside.statements.held, its.enrolment, its.counted)

pub take_in_each-voided-requires-clause-kept : goal.take_in_each-voided-requires-clause-kept
take_in_each-voided-requires-clause-kept c =
    let old = c.self.inside in
    let x = c.args.effect in
    let those = marked old.statements.held in
    let ready = subst (λ (v : SeenParts). IsReadyFor v c.args.effect) (sym c.self.view_is) c.requires in
    kept_enrolled old.progress c.enrol_new.new.running old.founding c.found.new.held x.founding old.learning.editions.held c.install.new.self.held x.editions old.learning.registrations.held
    c.install-2.new.self.held x.registrations old.statements.held c.found.ensures c.install.ensures ready.progress.editions_stay c.install-2.ensures ready.progress.registrations_stay
    (λ rs counted.
    c.enrol_new.ensures c.found.new.held c.install.new.self.held rs those
    (λ r comes.
    ready_on old.progress.running old.founding c.found.new.held x.founding old.learning.editions.held c.install.new.self.held x.editions c.found.ensures c.install.ensures ready.progress.editions_stay r
    those (ready.progress.running r comes))
    counted)
    c.self.invariant

pub invariant_of-self : goal.invariant_of-self
invariant_of-self c = c.take_in_each-voided.ensures.kept

-- ---- the state

pub returns-clause-state : goal.returns-clause-state
returns-clause-state c =
    let x = c.args.effect in
    let is = c.self.view_is in
    same_states _ _ (c.found.ensures ∙ ap (λ (v : SeenParts). founding_after v.founding x.founding) is) (c.install-3.ensures ∙ ap (λ (v : SeenParts). providers_after v.providers.held x.providers) is)
    (c.take_in_each-voided.ensures.held ∙ (ap (λ (ss : List StoredStatement). add_each c.self.inside.statements.held ss) c.as_slice.ensures ∙ ap (λ (v : SeenParts). add_each v.statements.held x.statements) is))
    (c.install_change.ensures ∙ ap (λ (v : SeenParts). documents_after (documents_in v.documents) x.documents) is)
    (c.install.ensures ∙ ap (λ (v : SeenParts). editions_after v.learning.editions.held x.editions) is)
    (c.install-9.ensures ∙ ap (λ (v : SeenParts). courses_after v.learning.courses.held x.courses) is)
    (c.install-2.ensures ∙ ap (λ (v : SeenParts). registrations_after v.learning.registrations.held x.registrations) is)
    (c.install-4.ensures ∙ ap (λ (v : SeenParts). launches_after v.learning.launches.held x.launches) is)
    (c.install-5.ensures ∙ ap (λ (v : SeenParts). sessions_after x.moment v.learning.sessions.held x.sessions) is)
    (c.install-6.ensures ∙ ap (λ (v : SeenParts). made_sessions_after v.learning.made_sessions.held x.made_sessions) is)
    (c.install-7.ensures ∙ ap (λ (v : SeenParts). keys_after v.learning.keys.held x.keys) is) (c.install-8.ensures ∙ ap (λ (v : SeenParts). tokens_after v.learning.tokens.held x.tokens) is)
    (ap (λ (v : SeenParts). v.length + 1) is) refl

-- ---- what is left

pub returns-clause-nothing : goal.returns-clause-nothing
returns-clause-nothing c = record {
  statements = c.take_in_each-voided.ensures.nothing;
  running = c.take_in_each-voided.ensures.no_tallies;
  targets = c.take_in_each-voided.ensures.no_targets;
}
