use Rattle.std.proofs.Common.{◌≡◌, ◌+◌, ◌++◌, ◌∷◌, ◌∙◌, [], Bool, Option, false, take, ap, subst, sym, option_copied}
use Rattle.std.specs.Option.{option_map_or}
use Rattle.std.proofs.lemmas.Option.{same_Some}
use Rattle.cmi5_running_sessions.specs.Cmi5SessionMarked.{mark, marked}
use Rattle.lrs_parts.specs.Progress.{KeepsUp}
use Rattle.lrs_parts.specs.Trees.{voided_in}
use Rattle.lrs_parts.proofs.Events.{marks_few}
use Rattle.lrs_parts.proofs.Kept.{slots_on}
use Rattle.xapi_statement.specs.Statements.{is_voided}
use Rattle.xapi_statement.specs.Stored.{StoredStatement}
use Rattle.lrs_parts.proofs.following.follow.Goals as goal

pub void_by-requires-clause-voided : goal.void_by-requires-clause-voided
void_by-requires-clause-voided c = λ s at.
    subst (λ (x : StoredStatement). option_copied c.args.voided ≡ voided_in c.args.statements.now.held x) (same_Some c.args.statement.now s (sym c.requires.there ∙ at)) c.requires.voided

pub returns-clause-follows : goal.returns-clause-follows
returns-clause-follows c = λ follows.
    let all = c.args.statements.now.held in
    let s = c.args.statement.now in
    let voided : c.is_voided_at-already.result ≡ is_voided (take (c.args.at + 1) all) s =
    c.is_voided_at-already.ensures ∙ ap (λ (o : Option StoredStatement). option_map_or (is_voided (take (c.args.at + 1) all)) o false) c.requires.there in
    c.void_by.ensures.follows s c.requires.there
    (subst (λ (v : Bool). KeepsUp c.take_in.new.progress c.args.founding.now c.args.learning.now.editions.held c.args.learning.now.registrations.held (marked (take c.args.at all) ++ mark s v ∷ [])) voided
    (c.take_in.ensures.follows (marked (take c.args.at all)) (marks_few all c.args.at c.requires.few) follows))

pub returns-clause-slots : goal.returns-clause-slots
returns-clause-slots c =
    slots_on c.args.progress.now.sessions c.take_in.new.progress.sessions c.void_by.new.progress.sessions c.take_in.ensures.slots c.void_by.ensures.slots
