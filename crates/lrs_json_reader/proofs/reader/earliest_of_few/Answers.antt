use Rattle.std.proofs.Common.{◌≡◌, refl, rules}
use Rattle.lrs_json.specs.View.{member_view}
use Rattle.lrs_json.specs.declared.tree.Tree.{the_lemmas}
use Rattle.lrs_json_reader.proofs.Names.{passed_next, few_again, few_new, names_done}
use Rattle.lrs_json_reader.proofs.reader.earliest_of_few.Goals as goal

pub loop-member-preserved-then-again : goal.loop-member-preserved-then-again
loop-member-preserved-then-again c =
    let step = c.in-Some.ensures.steps in
    let so = c.loop-member.invariant in
    let name : (member_view c.in-Some.member.now).0 ≡ c.as_str.result.now = search (rules, the_lemmas) in
    record {
      passed = (passed_next c.args.members.now c.loop-member.before _ c.in-Some.member.now _ so.passed step.0).1;
      names = rw c.earlier-found.ensures (few_again (λ m. (member_view m).0) c.args.members.now c.loop-member.before _ _ _ _ c.in-Some.member.now _ _ _ c.as_str.result.now _ _ so.passed so.names step.0 step.1 name refl c.is_named-again.ensures c.if-again.true);
    }

pub loop-member-preserved : goal.loop-member-preserved
loop-member-preserved c =
    let step = c.in-Some.ensures.steps in
    let so = c.loop-member.invariant in
    let name : (member_view c.in-Some.member.now).0 ≡ c.as_str.result.now = search (rules, the_lemmas) in
    record {
      passed = (passed_next c.args.members.now c.loop-member.before _ c.in-Some.member.now _ so.passed step.0).1;
      names = few_new (λ m. (member_view m).0) c.args.members.now c.loop-member.before _ _ _ _ c.in-Some.member.now _ _ _ c.as_str.result.now _ _ so.passed so.names step.0 step.1 name refl c.is_named-again.ensures c.if-again.false;
    }

pub returns : goal.returns
returns c = names_done (λ m. (member_view m).0) _ _ _ _ _ _ c.loop-member.invariant.names c.in-None.ensures.steps
