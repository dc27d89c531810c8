use Rattle.std.proofs.Common.{◌≡◌, ◌<◌, ◌+◌, length, take, sym, ◌∙◌, subst, rules, arith}
use Rattle.lrs_json.specs.View.{member_view}
use Rattle.lrs_json.specs.declared.tree.Tree.{the_lemmas}
use Rattle.xapi_docs.specs.Merging.{HasIndices}
use Rattle.xapi_docs.proofs.NameIndices.{index_comes, index_stands, seen}
use Rattle.xapi_docs.proofs.merging.indices_of.Goals as goal
use Rattle.xapi_docs.proofs.merging.indices_of.Goals.{then-not-contains_key+in_ok-clone+in_ok-insert, else-not-contains_key}

pub loop-at-preserved : goal.loop-at-preserved
loop-at-preserved c =
    let m = c.index-members-at.result in
    let l : c.loop-at.at < length c.args.members.now = omega arith in
    let named : c.index-members-at.result.name ≡ (member_view c.index-members-at.result).0 = search (rules, the_lemmas) in
    let asked = c.contains_key.ensures in
    elim c.if-not-contains_key.branch [
      | then-not-contains_key+in_ok-clone+in_ok-insert w ↦ subst (λ z. HasIndices z (seen (take (c.loop-at.at + 1) c.args.members.now))) (sym w.indices-is)
          (index_comes c.loop-at.indices w.insert.new.self c.args.members.now c.loop-at.at m w.in_ok-clone.field-0 c.contains_key.result l c.index-members-at.is (w.in_ok-clone.ensures.cases ∙ named) c.loop-at.invariant
          (rw (← named) asked) w.if-not-contains_key.true w.in_ok-insert.ensures.updates.0)
      | else-not-contains_key w ↦ subst (λ z. HasIndices z (seen (take (c.loop-at.at + 1) c.args.members.now))) (sym w.indices-is)
          (index_stands c.loop-at.indices c.args.members.now c.loop-at.at m c.contains_key.result l c.index-members-at.is c.loop-at.invariant (rw (← named) asked) w.if-not-contains_key.false)
    ]
