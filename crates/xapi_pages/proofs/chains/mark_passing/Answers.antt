use Rattle.std.proofs.Common.{◌∙◌, ap, sym}
use Rattle.std.proofs.lemmas.List.{drop_all}
use Rattle.xapi_pages.proofs.Ways.{made_next, made_of}
use Rattle.xapi_pages.proofs.chains.mark_passing.Goals as goal

pub loop-position-preserved : goal.loop-position-preserved
loop-position-preserved c = λ k.
    let at = c.loop-position in
    made_next at.marks c.set.new.self c.args.path.now at.position-index k c.loop-position-test.true c.in_ok-set.ensures ∙ at.invariant k

pub returns : goal.returns
returns c = λ k.
    let at = c.loop-position in
    sym (ap (λ ws. made_of ws at.marks k) (drop_all at.position-index c.args.path.now c.loop-position-test.false)) ∙ at.invariant k
