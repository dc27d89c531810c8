use Rattle.std.proofs.Common.{List, length, subst}
use Rattle.xapi_received.specs.Received.{AreWithin}
use Rattle.xapi_received.specs.declared.marks.Excerpt.{Excerpt}
use Rattle.xapi_received.proofs.Spans.{first_put}
use Rattle.xapi_received.proofs.marks.put_first.Goals as goal

pub put_excerpt-requires : goal.put_excerpt-requires
put_excerpt-requires c = (subst (λ (ps : List Excerpt). AreWithin (length c.args.text.now) ps) c.in-Some.ensures.cases.0 c.requires.within).0

pub returns-in_ok-put_excerpt-in-Some-clause-ok : goal.returns-in_ok-put_excerpt-in-Some-clause-ok
returns-in_ok-put_excerpt-in-Some-clause-ok c = first_put c.args.text.now _ _ _ _ _ c.in-Some.ensures.cases.0 c.in_ok-put_excerpt-in-Some.ensures.ok

pub returns-in_ok-put_excerpt-in-Some-clause-within : goal.returns-in_ok-put_excerpt-in-Some-clause-within
returns-in_ok-put_excerpt-in-Some-clause-within c = (subst (λ (ps : List Excerpt). AreWithin (length c.args.text.now) ps) c.in-Some.ensures.cases.0 c.requires.within).1
