-- Room is made in each part, and nothing else changes.
use Rattle.std.proofs.Common.{◌∙◌, List, ap, subst, sym}
use Rattle.lrs_state.specs.Editions.{SeenEdition}
use Rattle.cmi5_running_sessions.specs.Room as room
use Rattle.std.specs.Cmp.Lexicographic.{slice_cmp}
use Rattle.std.specs.Ordering.{nat_cmp}
use Rattle.lrs_state.specs.Counted.{MakesSlotFor}
use Rattle.lrs_state.specs.Learning.{MakesLearningSlots}
use Rattle.lrs_parts.specs.Parts.{SeenParts}
use Rattle.lrs_parts.specs.Progress.{IsProgressReadyFor}
use Rattle.lrs_state.specs.Providers.{token_of}
use Rattle.lrs_parts.proofs.Kept.{all_ok, kept_still, same_states}
use Rattle.lrs_register.specs.Slots.{MakesSlots}
use Rattle.xapi_docs.specs.Docs.{documents_in, is_written}
use Rattle.xapi_docs.specs.XapiKeysKeys.{key_cmp}
use Rattle.xapi_statement.specs.Stored.{StoredStatement}
use Rattle.lrs_parts.proofs.parts.Parts.ready.Goals as goal

pub invariant_of-self : goal.invariant_of-self
invariant_of-self c =
    let new = c.ready_each.new in
    let does = c.ready_each.ensures in
    let old = c.self.inside in
    kept_still old.progress new.progress old.founding old.learning.editions.held new.learning.editions.held old.learning.registrations.held new.learning.registrations.held old.statements.held new.statements.held
    does.made_sessions.same does.same_running does.same_learning.editions does.same_learning.registrations does.same_statements c.self.invariant

pub returns-clause-same : goal.returns-clause-same
returns-clause-same c =
    let does = c.ready_each.ensures in
    let is = c.self.view_is in
    same_states _ _ (ap (λ (v : SeenParts). v.founding) is) (does.same_providers ∙ ap (λ (v : SeenParts). v.providers.held) is) (does.same_statements ∙ ap (λ (v : SeenParts). v.statements.held) is)
    (does.same_documents ∙ ap (λ (v : SeenParts). documents_in v.documents) is) (does.same_learning.editions ∙ ap (λ (v : SeenParts). v.learning.editions.held) is)
    (does.same_learning.courses ∙ ap (λ (v : SeenParts). v.learning.courses.held) is)
    (does.same_learning.registrations ∙ ap (λ (v : SeenParts). v.learning.registrations.held) is) (does.same_learning.launches ∙ ap (λ (v : SeenParts). v.learning.launches.held) is)
    (does.same_learning.sessions ∙ ap (λ (v : SeenParts). v.learning.sessions.held) is) (does.same_learning.made_sessions ∙ ap (λ (v : SeenParts). v.learning.made_sessions.held) is)
    (does.same_learning.keys ∙ ap (λ (v : SeenParts). v.learning.keys.held) is) (does.same_learning.tokens ∙ ap (λ (v : SeenParts). v.learning.tokens.held) is) (ap (λ (v : SeenParts). v.length) is)
    (ap (λ (v : SeenParts). v.last) is)

pub returns-clause-ready : goal.returns-clause-ready
returns-clause-ready c =
    let does = c.ready_each.ensures in
    all_ok c.ready_each.result does.ready_progress does.ready_providers does.ready_statements does.ready_documents does.ready_learning does.countable
    (λ progress providers statements documents learning countable. record {
      providers = providers;
      statements = statements;
      documents = documents;
      learning = learning;
      progress =
          subst (λ (ss : List StoredStatement). IsProgressReadyFor c.ready_each.new.progress c.self.inside.founding c.ready_each.new.learning.editions.held ss c.args.effect.now) (sym does.same_statements)
          (subst (λ (es : List SeenEdition). IsProgressReadyFor c.ready_each.new.progress c.self.inside.founding es c.self.inside.statements.held c.args.effect.now) (sym does.same_learning.editions)
          progress);
      length = countable;
    })

pub returns-clause-made : goal.returns-clause-made
returns-clause-made c =
    let x = c.args.effect.now in
    let does = c.ready_each.ensures in
    let new = c.ready_each.new in
    record {
      providers = subst (λ (v : SeenParts). MakesSlotFor (slice_cmp nat_cmp) token_of x.providers v.providers new.providers) c.self.view_is does.made_providers;
      documents = subst (λ (v : SeenParts). MakesSlots key_cmp (is_written x.documents) v.documents new.documents) c.self.view_is does.made_documents;
      learning = subst (λ (v : SeenParts). MakesLearningSlots v.learning new.learning x) c.self.view_is does.made_learning;
      sessions = subst (λ (v : SeenParts). room.MakesSlots x.statements v.progress.sessions new.progress.sessions) c.self.view_is does.made_sessions;
    }
