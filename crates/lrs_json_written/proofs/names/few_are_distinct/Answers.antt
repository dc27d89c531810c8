use Rattle.std.proofs.Common.{◌≡◌, ◌∙◌, ap, sym, subst, take, rules}
use Rattle.lrs_json.specs.Names.{is_among}
use Rattle.lrs_json.specs.View.{member_view}
use Rattle.lrs_json.specs.declared.tree.Tree.{the_lemmas}
use Rattle.lrs_json_written.specs.Fitting.{names_in}
use Rattle.lrs_json_written.proofs.Distinct.{few_again, few_begin, few_done, few_more, names_told}
use Rattle.lrs_json_written.proofs.names.few_are_distinct.Goals as goal

pub loop-i-init : goal.loop-i-init
loop-i-init c = few_begin (names_in c.args.members.now)

pub loop-i-preserved : goal.loop-i-preserved
loop-i-preserved c =
    let m = c.index-members-i.result in
    let name : (member_view c.index-members-i.result).0 ≡ c.as_str.result.now = search (rules, the_lemmas) in
    let told = subst (λ k. c.is_named.result ≡ is_among k (names_in (take c.loop-i.i c.args.members.now))) (sym name) (c.is_named.ensures ∙ ap (λ ns. is_among c.as_str.result.now ns) (sym (names_told (take c.loop-i.i c.args.members.now)))) in
    few_more c.args.members.now c.loop-i.i m c.is_named.result c.loop-i-test.true c.index-members-i.is told c.if-is_named.false c.loop-i.invariant

pub returns-then-is_named : goal.returns-then-is_named
returns-then-is_named c =
    let m = c.index-members-i.result in
    let name : (member_view c.index-members-i.result).0 ≡ c.as_str.result.now = search (rules, the_lemmas) in
    let told = subst (λ k. c.is_named.result ≡ is_among k (names_in (take c.loop-i.i c.args.members.now))) (sym name) (c.is_named.ensures ∙ ap (λ ns. is_among c.as_str.result.now ns) (sym (names_told (take c.loop-i.i c.args.members.now)))) in
    few_again c.args.members.now c.loop-i.i m c.is_named.result c.loop-i-test.true c.index-members-i.is told c.if-is_named.true c.loop-i.invariant

pub returns : goal.returns
returns c = few_done c.args.members.now c.loop-i.i c.loop-i-test.false c.loop-i.invariant
