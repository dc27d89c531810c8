use Rattle.std.proofs.Common.{◌≡◌, ◌≤◌, ◌∙◌, ◌+◌, ℕ, List, ap, drop, length, take, refl, subst, sym}
use Rattle.std.proofs.lemmas.List.{drop_all}
use Rattle.std.proofs.lemmas.Option.{slice_get_read}
use Rattle.cmi5_running_sessions.specs.Room.{HasSlotsFor}
use Rattle.cmi5_running_sessions.specs.Cmi5SessionMarked.{marked}
use Rattle.lrs_parts.specs.Progress.{KeepsUp}
use Rattle.lrs_parts.proofs.Arrivals.{Next, next_of}
use Rattle.lrs_parts.proofs.Kept.{slots_kept, slots_on, still_has}
use Rattle.lrs_parts.proofs.Voided.{each_at, tree_found}
use Rattle.xapi_statement.specs.Statements.{add_each}
use Rattle.xapi_statement.specs.Stored.{StoredStatement}
use Rattle.lrs_parts.proofs.following.follow_each.Goals as goal
use Rattle.lrs_json.proofs.Lists.{drop_item}

pub loop-statement-init : goal.loop-statement-init
loop-statement-init c = record {
  within = c.requires.within;
  added = c.requires.added;
  follows = λ follows. follows;
  slots = slots_kept c.args.progress.now.sessions;
}

pub follow_next-position-requires-clause-there : goal.follow_next-position-requires-clause-there
follow_next-position-requires-clause-there c =
    let at = c.loop-statement in
    let all = c.args.statements.now.held in
    let coming = c.args.coming.now in
    let s = c.statement-item.result in
    let more = drop (at.statement-index + 1) coming in
    let next : Next all at.position s more =
    next_of all at.position s more c.requires.distinct at.invariant.within
    (at.invariant.added ∙ ap (λ (ss : List StoredStatement). add_each (take at.position all) ss) (drop_item coming at.statement-index s c.loop-statement-test.true c.statement-item.is)) in
    next.there

pub follow_next-position-requires-clause-slots : goal.follow_next-position-requires-clause-slots
follow_next-position-requires-clause-slots c =
    let at = c.loop-statement in
    let coming = c.args.coming.now in
    let s = c.statement-item.result in
    still_has c.args.progress.now.sessions at.progress.sessions s at.invariant.slots
    (each_at (λ (x : StoredStatement). HasSlotsFor c.args.progress.now.sessions x) coming at.statement-index s c.requires.slots
    (slice_get_read coming (length coming) at.statement-index s refl c.loop-statement-test.true c.statement-item.is))

pub follow_next-position-requires-clause-voided : goal.follow_next-position-requires-clause-voided
follow_next-position-requires-clause-voided c =
    let all = c.args.statements.now.held in
    c.tree_voided_by-voided.ensures
    ∙ tree_found c.args.trees.now (take c.args.first all) c.args.coming.now all c.requires.added c.requires.targets c.loop-statement.statement-index c.statement-item.result
    c.loop-statement-test.true c.statement-item.is

pub loop-statement-preserved : goal.loop-statement-preserved
loop-statement-preserved c =
    let at = c.loop-statement in
    let all = c.args.statements.now.held in
    let coming = c.args.coming.now in
    let s = c.statement-item.result in
    let more = drop (at.statement-index + 1) coming in
    let next : Next all at.position s more =
    next_of all at.position s more c.requires.distinct at.invariant.within
    (at.invariant.added ∙ ap (λ (ss : List StoredStatement). add_each (take at.position all) ss) (drop_item coming at.statement-index s c.loop-statement-test.true c.statement-item.is)) in
    record {
      within = subst (λ (n : ℕ). n ≤ length all) (sym c.follow_next-position.ensures.next) next.within;
      added = subst (λ (n : ℕ). all ≡ add_each (take n all) more) (sym c.follow_next-position.ensures.next) next.added;
      follows = λ follows. c.follow_next-position.ensures.follows (at.invariant.follows follows);
      slots = slots_on c.args.progress.now.sessions at.progress.sessions c.follow_next-position.new.progress.sessions at.invariant.slots c.follow_next-position.ensures.slots;
    }

pub returns : goal.returns
returns c = λ follows.
    let at = c.loop-statement in
    let all = c.args.statements.now.held in
    let whole : all ≡ take at.position all =
    at.invariant.added ∙ ap (λ (ss : List StoredStatement). add_each (take at.position all) ss) (drop_all at.statement-index c.args.coming.now c.loop-statement-test.false) in
    subst (λ (ss : List StoredStatement). KeepsUp at.progress c.args.founding.now c.args.learning.now.editions.held c.args.learning.now.registrations.held (marked ss)) (sym whole)
    (at.invariant.follows follows)
