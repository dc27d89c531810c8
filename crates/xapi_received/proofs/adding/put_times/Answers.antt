use Rattle.std.proofs.Common.{◌++◌, length, List, ℕ, Option, Some, None, true, codes, sym, ap, subst, ◌∙◌}
use Rattle.std.proofs.lemmas.Result.{on_ok_weaker}
use Rattle.lrs_json.specs.Json.{string}
use Rattle.lrs_json.specs.Texts.{member_text, name_text}
use Rattle.lrs_time.specs.Moments.{moment_text}
use Rattle.xapi_format.proofs.Appending.{member_parts}
use Rattle.xapi_received.specs.Received.{HasSpan}
use Rattle.xapi_received.specs.declared.marks.ByteSpan.{ByteSpan}
use Rattle.xapi_received.proofs.Marked.{given_member}
use Rattle.xapi_received.proofs.adding.put_times.Goals as goal

pub of-requires : goal.of-requires
of-requires c = subst (λ (o : Option ByteSpan). HasSpan (length c.args.text.now) o) c.in-Some.is c.requires

pub returns-in-Some-clause-ok : goal.returns-in-Some-clause-ok
returns-in-Some-clause-ok c = λ received given.
    let old = c.args.into.now.items in
    let stored = moment_text c.args.stored in
    let last = member_text true (codes "stored") (string stored) in
    on_ok_weaker c.put_given_times.result (λ e. e ∙ (ap (λ (t : List ℕ). old ++ ((name_text true (codes "timestamp") ++ t) ++ last)) c.of.ensures
    ∙ ap (λ (t : List ℕ). old ++ (t ++ last)) (given_member c.args.text.now (codes "timestamp") stored received c.args.timestamp (Some c.in-Some.span) c.in-Some.is given))) c.put_given_times.ensures.ok

pub returns-in-None-clause-ok : goal.returns-in-None-clause-ok
returns-in-None-clause-ok c = λ received given.
    let old = c.args.into.now.items in
    let stored = moment_text c.args.stored in
    let last = member_text true (codes "stored") (string stored) in
    on_ok_weaker c.put_own_times.result (λ e. e ∙ ap (λ (t : List ℕ). old ++ (t ++ last))
    (sym (member_parts true (codes "timestamp") (string stored)) ∙ given_member c.args.text.now (codes "timestamp") stored received c.args.timestamp None c.in-None.is given)) c.put_own_times.ensures.ok
