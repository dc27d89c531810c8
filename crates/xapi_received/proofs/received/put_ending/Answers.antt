use Rattle.std.proofs.Common.{◌++◌, length, Option, sym, ap, subst, ◌∙◌}
use Rattle.std.proofs.lemmas.List.{append-nil}
use Rattle.std.proofs.lemmas.Result.{on_ok_weaker}
use Rattle.lrs_time.specs.Moments.{moment_text}
use Rattle.xapi_format.specs.Authorities.{authority_json}
use Rattle.xapi_format.specs.Completed.{added}
use Rattle.xapi_received.specs.Received.{EndsAs, HasEnding, ending_text}
use Rattle.xapi_received.specs.declared.marks.Ending.{Ending}
use Rattle.xapi_received.proofs.received.put_ending.Goals as goal

pub put_added-requires : goal.put_added-requires
put_added-requires c = subst (λ (o : Option Ending). HasEnding (length c.args.text.now) o) c.in-Some.is c.requires

pub returns-in-Some-clause-ok : goal.returns-in-Some-clause-ok
returns-in-Some-clause-ok c = λ received given.
    let behind = added received c.args.id.now (moment_text c.args.stored) (authority_json c.args.authority.now) in
    on_ok_weaker c.put_added.result (λ e. e ∙ ap (λ (o : Option Ending). c.args.into.now.items ++ ending_text o behind) (sym c.in-Some.is))
    (c.put_added.ensures.ok received (subst (λ (o : Option Ending). EndsAs c.args.text.now received o) c.in-Some.is given))

pub returns-in-None-clause-ok : goal.returns-in-None-clause-ok
returns-in-None-clause-ok c = λ received given.
    let behind = added received c.args.id.now (moment_text c.args.stored) (authority_json c.args.authority.now) in
    let old = c.args.into.now.items in
    sym (append-nil old) ∙ ap (λ (o : Option Ending). old ++ ending_text o behind) (sym c.in-None.is)
