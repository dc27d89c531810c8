use Rattle.std.proofs.Common.{◌∙◌, List, ap, inl, subst, sym}
use Rattle.cmi5_running_sessions.specs.Room as room
use Rattle.lrs_register.proofs.Ahead.{made_and_back}
use Rattle.lrs_parts.proofs.Ahead.{back, learning_back}
use Rattle.lrs_parts.proofs.Kept.{kept_still, said_back, same_states}
use Rattle.lrs_parts.specs.Parts.{MakesSlotsFor, SeenParts}
use Rattle.lrs_state.specs.Providers.{token_of}
use Rattle.xapi_docs.specs.Docs.{documents_in, is_written}
use Rattle.xapi_docs.specs.XapiKeysKeys.{key_cmp}
use Rattle.xapi_statement.specs.Stored.{StoredStatement}
use Rattle.lrs_parts.proofs.parts.Parts.release.Goals as goal

pub invariant_of-self : goal.invariant_of-self
invariant_of-self c =
    let old = c.self.inside in
    let learning = c.release-3.new.self in
    kept_still old.progress c.release-4.new.self old.founding old.learning.editions.held learning.editions.held old.learning.registrations.held learning.registrations.held old.statements.held
    c.release-2.new.self.held c.release-4.ensures.back.same c.release-4.ensures.held c.release-3.ensures.same.editions c.release-3.ensures.same.registrations c.release-2.ensures.held c.self.invariant

pub returns-clause-same : goal.returns-clause-same
returns-clause-same c =
    let same = c.release-3.ensures.same in
    let is = c.self.view_is in
    same_states _ _ (ap (λ (v : SeenParts). v.founding) is) (c.release.ensures.held ∙ ap (λ (v : SeenParts). v.providers.held) is) (c.release-2.ensures.held ∙ ap (λ (v : SeenParts). v.statements.held) is)
    (c.release_change.ensures.held ∙ ap (λ (v : SeenParts). documents_in v.documents) is) (same.editions ∙ ap (λ (v : SeenParts). v.learning.editions.held) is)
    (same.courses ∙ ap (λ (v : SeenParts). v.learning.courses.held) is)
    (same.registrations ∙ ap (λ (v : SeenParts). v.learning.registrations.held) is) (same.launches ∙ ap (λ (v : SeenParts). v.learning.launches.held) is)
    (same.sessions ∙ ap (λ (v : SeenParts). v.learning.sessions.held) is) (same.made_sessions ∙ ap (λ (v : SeenParts). v.learning.made_sessions.held) is)
    (same.keys ∙ ap (λ (v : SeenParts). v.learning.keys.held) is) (same.tokens ∙ ap (λ (v : SeenParts). v.learning.tokens.held) is) (ap (λ (v : SeenParts). v.length) is) (ap (λ (v : SeenParts). v.last) is)

pub returns-clause-undone : goal.returns-clause-undone
returns-clause-undone c = λ before made_before.
    let x = c.args.effect.now in
    let old = c.self.inside in
    let made = subst (λ (v : SeenParts). MakesSlotsFor before v x) (sym c.self.view_is) made_before in
    record {
      providers = back token_of x.providers before.providers old.providers c.release.new.self made.providers c.release.ensures.back;
      statements = inl c.release-2.ensures.nothing;
      documents = made_and_back key_cmp (is_written x.documents) before.documents old.documents c.release_change.new.self made.documents c.release_change.ensures.back;
      learning = learning_back before.learning old.learning c.release-3.new.self x made.learning c.release-3.ensures.back;
      sessions = said_back x.statements before.progress.sessions old.progress.sessions c.release-4.new.self.sessions made.sessions
          (subst (λ (ss : List StoredStatement). room.TakesSlotsBack ss old.progress.sessions c.release-4.new.self.sessions) c.as_slice.ensures c.release-4.ensures.back);
      running = inl c.release-4.ensures.nothing;
      targets = inl c.release-4.ensures.targets;
    }
