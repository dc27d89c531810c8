use Rattle.std.proofs.Common.{◌≡◌, sym, ◌∙◌, rules}
use Rattle.lrs_json.specs.View.{member_view}
use Rattle.lrs_json.specs.declared.tree.Tree.{the_lemmas}
use Rattle.lrs_json_written.proofs.Distinct.{many_again, many_done, many_more}
use Rattle.lrs_json_written.proofs.names.many_are_distinct.Goals as goal

pub loop-member-preserved : goal.loop-member-preserved
loop-member-preserved c =
    let name : (member_view c.member-item.result).0 ≡ c.as_str.result.now = search (rules, the_lemmas) in
    many_more c.as_str.result c.loop-member.names c.insert.new.self c.args.members.now c.loop-member.member-index c.member-item.result c.loop-member-test.true c.member-item.is name c.loop-member.invariant
    c.in_ok-insert.ensures.updates (sym c.if-not-branch.false ∙ c.in_ok-insert.ensures.added)

pub returns-then-not-branch : goal.returns-then-not-branch
returns-then-not-branch c =
    let name : (member_view c.member-item.result).0 ≡ c.as_str.result.now = search (rules, the_lemmas) in
    many_again c.as_str.result c.loop-member.names c.args.members.now c.loop-member.member-index c.member-item.result c.loop-member-test.true c.member-item.is name c.loop-member.invariant
    (sym c.if-not-branch.true ∙ c.in_ok-insert.ensures.added)

pub returns : goal.returns
returns c = many_done c.loop-member.names c.args.members.now c.loop-member.member-index c.loop-member-test.false c.loop-member.invariant
