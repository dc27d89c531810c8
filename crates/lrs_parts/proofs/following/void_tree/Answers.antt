use Rattle.std.proofs.Common.{◌≡◌, ◌++◌, ◌∷◌, ◌∙◌, ap, subst, sym, false, true, option_copied}
use Rattle.std.proofs.lemmas.Option.{none-some, same_Some}
use Rattle.cmi5_running_sessions.specs.Cmi5SessionMarked.{mark}
use Rattle.lrs_parts.specs.Progress.{KeepsUp}
use Rattle.lrs_parts.proofs.Kept.{slots_kept}
use Rattle.xapi_statement.specs.Stored.{StoredStatement}
use Rattle.lrs_parts.proofs.following.void_tree.Goals as goal

pub returns-in-Some-clause-follows : goal.returns-in-Some-clause-follows
returns-in-Some-clause-follows c = λ s before behind is follows.
    let same : s ≡ c.in-Some.statement.now = same_Some s c.in-Some.statement.now (sym is ∙ ap option_copied c.in-Some.is) in
    subst (λ (x : StoredStatement). KeepsUp c.void.new.progress c.args.founding.now c.args.learning.now.editions.held c.args.learning.now.registrations.held (before ++ mark x true ∷ behind)) (sym same)
    (c.void.ensures.follows before behind
    (subst (λ (x : StoredStatement). KeepsUp c.args.progress.now c.args.founding.now c.args.learning.now.editions.held c.args.learning.now.registrations.held (before ++ mark x false ∷ behind)) same follows))

pub returns-in_default-clause-follows : goal.returns-in_default-clause-follows
returns-in_default-clause-follows c = λ s before behind is follows. absurd (none-some s (sym (ap option_copied c.in_default.is) ∙ is))

pub returns-in_default-clause-slots : goal.returns-in_default-clause-slots
returns-in_default-clause-slots c = slots_kept c.args.progress.now.sessions
