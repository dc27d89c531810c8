use Rattle.std.proofs.Common.{◌≡◌, ◌∙◌, length, sym, vec_len, rules}
use Rattle.std.proofs.lemmas.Bool.{eqb-true}
use Rattle.xapi_search.proofs.Walked.{walk_ended, walk_on}
use Rattle.xapi_search.proofs.references.walk.Goals as goal

pub loop-step-init : goal.loop-step-init
loop-step-init c = record { kept = λ k is. is; walked = c.requires.walked }

pub loop-step-preserved : goal.loop-step-preserved
loop-step-preserved c =
    let at = c.loop-step in
    let notes = c.in_ok-note_each-in-Some.ensures in
    record {
      kept = λ k is. notes.kept k (at.invariant.kept k is);
      walked = walk_on c.args.index.now.held c.args.n (length c.args.index.now.coming) c.in-Some.position c.referring_to.result.now at.found.keys c.note_each.new.found.keys
          at.left.items c.pop.new.self.items c.note_each.new.left.items c.requires.within c.in-Some.ensures.items c.referring_to.ensures notes at.invariant.walked;
    }

pub returns-in-None-clause-walked : goal.returns-in-None-clause-walked
returns-in-None-clause-walked c =
    let at = c.loop-step in
    let counted : vec_len at.left ≡ length at.left.items = search rules in
    λ ended. walk_ended c.args.index.now.held c.args.n at.found.keys at.left.items (vec_len at.left) counted c.in-None.ensures.cases.0 at.invariant.walked

pub returns-clause-walked : goal.returns-clause-walked
returns-clause-walked c =
    let at = c.loop-step in
    let counted : vec_len at.left ≡ length at.left.items = search rules in
    λ ended. walk_ended c.args.index.now.held c.args.n at.found.keys at.left.items (vec_len at.left) counted (eqb-true (vec_len at.left) 0 (sym c.is_empty.ensures ∙ ended)) at.invariant.walked
