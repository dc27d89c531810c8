use Rattle.std.proofs.Common.{◌≡◌, ◌∷◌, map, sym, ap, ◌∙◌, rules}
use Rattle.lrs_json.specs.View.{member_view}
use Rattle.lrs_json.specs.declared.tree.Tree.{the_lemmas}
use Rattle.lrs_json_reader.proofs.Names.{set_again, set_new, names_done}
use Rattle.lrs_json_reader.proofs.reader.earliest_of_many.Goals as goal

pub loop-member-preserved-then-not-branch : goal.loop-member-preserved-then-not-branch
loop-member-preserved-then-not-branch c =
    let step = c.in-Some.ensures.steps in
    let names = map (λ m. (member_view m).0) c.next.new.self.a.rest.now in
    let name : (member_view c.in-Some.member.now).0 ≡ c.as_str.result.now = search (rules, the_lemmas) in
    rw c.earlier-found.ensures (set_again c.as_str.result _ _ _ _ _ _ _ _ _ _ c.loop-member.invariant (ap (map (λ m. (member_view m).0)) step.0 ∙ ap (λ k. k ∷ names) name) step.1 c.in_ok-insert.ensures.updates
    (sym c.if-not-branch.true ∙ c.in_ok-insert.ensures.added))

pub loop-member-preserved : goal.loop-member-preserved
loop-member-preserved c =
    let step = c.in-Some.ensures.steps in
    let names = map (λ m. (member_view m).0) c.next.new.self.a.rest.now in
    let name : (member_view c.in-Some.member.now).0 ≡ c.as_str.result.now = search (rules, the_lemmas) in
    set_new c.as_str.result _ _ _ _ _ _ _ _ _ _ c.loop-member.invariant (ap (map (λ m. (member_view m).0)) step.0 ∙ ap (λ k. k ∷ names) name) step.1 c.in_ok-insert.ensures.updates
    (sym c.if-not-branch.false ∙ c.in_ok-insert.ensures.added)

pub returns : goal.returns
returns c = names_done (λ m. (member_view m).0) _ _ _ _ _ _ c.loop-member.invariant c.in-None.ensures.steps
