use Rattle.std.proofs.Common.{◌≡◌, ◌+◌, ◌++◌, ◌∷◌, ◌∙◌, [], List, Some, take, ap, append_assoc, option_copied, subst, sym, false}
use Rattle.cmi5_running_sessions.specs.Cmi5SessionMarked.{MarkedStatement, mark}
use Rattle.lrs_parts.specs.Progress.{KeepsUp, voided_anew}
use Rattle.lrs_parts.proofs.Events.{Voiding, no_event, voiding_at}
use Rattle.lrs_parts.proofs.Kept.{slots_kept}
use Rattle.lrs_parts.proofs.Voided.{some_item, voided_there}
use Rattle.xapi_statement.specs.Statements.{is_voided}
use Rattle.lrs_parts.proofs.following.void_by.Goals as goal
use Rattle.xapi_docs.proofs.Back.{none_of}

pub returns-then-voids_anew-clause-follows : goal.returns-then-voids_anew-clause-follows
returns-then-voids_anew-clause-follows c = λ s at follows.
    let all = c.args.statements.now.held in
    let m = mark s (is_voided (take (c.args.at + 1) all) s) in
    let index = some_item (voided_anew all c.args.at) (sym c.voids_anew.ensures ∙ c.if-voids_anew.true) in
    let it : Voiding all c.args.at s index.0 = voiding_at all c.args.at s index.0 c.requires.distinct at index.1 in
    let tree : option_copied c.args.voided ≡ Some it.voided = c.requires.voided s at ∙ voided_there all s it.voided index.0 c.requires.distinct it.there it.by in
    subst (λ (those : List MarkedStatement). KeepsUp c.void_tree.new.progress c.args.founding.now c.args.learning.now.editions.held c.args.learning.now.registrations.held those) (sym it.new)
    (c.void_tree.ensures.follows it.voided it.front (it.rest ++ m ∷ []) tree
    (subst (λ (those : List MarkedStatement). KeepsUp c.args.progress.now c.args.founding.now c.args.learning.now.editions.held c.args.learning.now.registrations.held those)
    (ap (λ (those : List MarkedStatement). those ++ m ∷ []) it.old ∙ append_assoc it.front (mark it.voided false ∷ it.rest) (m ∷ [])) follows))

pub returns-else-voids_anew-clause-follows : goal.returns-else-voids_anew-clause-follows
returns-else-voids_anew-clause-follows c = λ s at follows.
    let all = c.args.statements.now.held in
    subst (λ (those : List MarkedStatement). KeepsUp c.args.progress.now c.args.founding.now c.args.learning.now.editions.held c.args.learning.now.registrations.held those)
    (sym (no_event all c.args.at s c.requires.distinct at (none_of (voided_anew all c.args.at) (sym c.voids_anew.ensures ∙ c.if-voids_anew.false)))) follows

pub returns-else-voids_anew-clause-slots : goal.returns-else-voids_anew-clause-slots
returns-else-voids_anew-clause-slots c = slots_kept c.args.progress.now.sessions
