use Rattle.std.proofs.Common.{◌≡◌, ◌∙◌, ℕ, List, length, take, ap, subst, sym, arith}
use Rattle.cmi5_running_sessions.specs.Cmi5SessionMarked.{marked}
use Rattle.lrs_ids.specs.Ids.{are_distinct}
use Rattle.lrs_parts.specs.Progress.{KeepsUp}
use Rattle.lrs_parts.specs.Trees.{AreTargets}
use Rattle.lrs_parts.proofs.Events.{distinct_each, front_of, longer}
use Rattle.lrs_parts.proofs.Kept.{settled}
use Rattle.xapi_statement.specs.Statements.{add_each, ids_of}
use Rattle.xapi_statement.specs.Stored.{StoredStatement}
use Rattle.lrs_parts.proofs.following.take_in_each.Goals as goal

pub follow_each-requires-clause-within : goal.follow_each-requires-clause-within
follow_each-requires-clause-within c =
    omega (arith, c.len-first.ensures, longer c.args.statements.now.held c.args.coming.now, ap (λ (ss : List StoredStatement). length ss) c.install.ensures.held)

pub follow_each-requires-clause-distinct : goal.follow_each-requires-clause-distinct
follow_each-requires-clause-distinct c =
    ap (λ (ss : List StoredStatement). are_distinct (ids_of ss)) c.install.ensures.held ∙ distinct_each c.args.statements.now.held c.args.coming.now c.requires.kept.distinct

pub follow_each-requires-clause-added : goal.follow_each-requires-clause-added
follow_each-requires-clause-added c =
    let old = c.args.statements.now.held in
    let front : take c.len-first.result c.install.new.self.held ≡ old =
    ap (λ (n : ℕ). take n c.install.new.self.held) c.len-first.ensures
    ∙ (ap (λ (ss : List StoredStatement). take (length old) ss) c.install.ensures.held ∙ front_of old c.args.coming.now) in
    c.install.ensures.held ∙ ap (λ (ss : List StoredStatement). add_each ss c.args.coming.now) (sym front)

pub follow_each-requires-clause-slots : goal.follow_each-requires-clause-slots
follow_each-requires-clause-slots c = c.requires.slots

pub follow_each-requires-clause-targets : goal.follow_each-requires-clause-targets
follow_each-requires-clause-targets c =
    let old = c.args.statements.now.held in
    let front : take c.len-first.result c.install.new.self.held ≡ old =
    ap (λ (n : ℕ). take n c.install.new.self.held) c.len-first.ensures
    ∙ (ap (λ (ss : List StoredStatement). take (length old) ss) c.install.ensures.held ∙ front_of old c.args.coming.now) in
    subst (λ (ts : List StoredStatement). AreTargets ts (take c.len-first.result c.install.new.self.held) c.args.coming.now) (sym (c.as_slice.ensures ∙ c.take_out-trees.ensures.value))
    (subst (λ (ss : List StoredStatement). AreTargets c.args.progress.now.targets ss c.args.coming.now) (sym front) c.requires.targets)

pub returns-clause-held : goal.returns-clause-held
returns-clause-held c = c.install.ensures.held

pub returns-clause-kept : goal.returns-clause-kept
returns-clause-kept c =
    let old = c.args.statements.now.held in
    let front : take c.len-first.result c.install.new.self.held ≡ old =
    ap (λ (n : ℕ). take n c.install.new.self.held) c.len-first.ensures
    ∙ (ap (λ (ss : List StoredStatement). take (length old) ss) c.install.ensures.held ∙ front_of old c.args.coming.now) in
    let was : KeepsUp c.args.progress.now c.args.founding.now c.args.learning.now.editions.held c.args.learning.now.registrations.held (marked (take c.len-first.result c.install.new.self.held)) =
    subst (λ (ss : List StoredStatement). KeepsUp c.args.progress.now c.args.founding.now c.args.learning.now.editions.held c.args.learning.now.registrations.held (marked ss)) (sym front)
    c.requires.kept.follows in
    record {
      distinct = ap (λ (ss : List StoredStatement). are_distinct (ids_of ss)) c.install.ensures.held ∙ distinct_each old c.args.coming.now c.requires.kept.distinct;
      follows = settled c.follow_each.new.progress c.settle.new.self c.args.founding.now c.args.learning.now.editions.held c.args.learning.now.registrations.held (marked c.install.new.self.held)
          c.settle.ensures.sessions c.settle.ensures.held (c.follow_each.ensures (record { sessions = was.sessions; counted = was.counted }));
    }
