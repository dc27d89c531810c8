use Rattle.std.proofs.Common.{◌≡◌, ◌≤◌, ◌^◌, ◌+◌, ◌∙◌, length, ap, arith}
use Rattle.std.proofs.lemmas.List.{with_items_is}
use Rattle.cmi5_verdict.specs.Nodes.{seen}
use Rattle.cmi5_verdict.specs.Said.{either, said_in, said_of}
use Rattle.cmi5_verdict.specs.Statements.{all_of}
use Rattle.cmi5_verdict.proofs.Spoken.{said_from_none}
use Rattle.cmi5_verdict.proofs.said.said_of_each.Goals as goal

pub returns : goal.returns
returns c =
    let n = length c.args.enrolment.now.nodes.now in
    let few : length c.args.enrolment.now.nodes.now ≤ 2 ^ 64 = omega arith in
    let told = said_in (seen c.args.enrolment.now) (all_of c.args.statements.now) in
    with_items_is c.in_ok-said.said c.note_all.new.said (c.note_all.ensures.long ∙ c.as_mut_slice.ensures.len)
    ∙ said_from_none (seen c.args.enrolment.now) (all_of c.args.statements.now) n c.as_mut_slice.result.now c.note_all.new.said few
    (c.as_mut_slice.ensures.value ∙ c.in_ok-said.ensures) c.note_all.ensures.long
    (λ p lt small. let here : 0 + p ≡ p = omega arith in
    c.in_ok-note_all.ensures.noted p lt (omega arith) ∙ ap (λ q. either (said_of c.as_mut_slice.result.now p) (told q)) here)
