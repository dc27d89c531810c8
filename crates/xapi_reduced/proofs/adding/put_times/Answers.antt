use Rattle.std.proofs.Common.{◌++◌, List, ℕ, Option, true, codes, ap, sym, ◌∙◌}
use Rattle.std.specs.Prelude.{unwrap_or}
use Rattle.std.proofs.lemmas.Result.{on_ok_weaker}
use Rattle.lrs_json.specs.Json.{Json, string}
use Rattle.lrs_json.specs.Texts.{member_text, name_text}
use Rattle.lrs_time.specs.Moments.{moment_text}
use Rattle.xapi_format.proofs.Appending.{member_parts}
use Rattle.xapi_reduced.proofs.adding.put_times.Goals as goal

pub returns-in-Some-clause-ok : goal.returns-in-Some-clause-ok
returns-in-Some-clause-ok c =
    let old = c.args.into.now.items in
    let stored = moment_text c.args.stored in
    let last = member_text true (codes "stored") (string stored) in
    on_ok_weaker c.put_given_times.result (λ e. e ∙ (ap (λ (t : List ℕ). old ++ ((name_text true (codes "timestamp") ++ t) ++ last)) c.bytes.ensures
    ∙ (ap (λ (t : List ℕ). old ++ (t ++ last)) (member_parts true (codes "timestamp") c.in-Some.given)
    ∙ ap (λ (o : Option Json). old ++ (member_text true (codes "timestamp") (unwrap_or o (string stored)) ++ last)) (sym c.in-Some.is ∙ c.get.ensures)))) c.put_given_times.ensures.ok

pub returns-in-None-clause-ok : goal.returns-in-None-clause-ok
returns-in-None-clause-ok c =
    let old = c.args.into.now.items in
    let stored = moment_text c.args.stored in
    let last = member_text true (codes "stored") (string stored) in
    on_ok_weaker c.put_own_times.result (λ e. e
    ∙ ap (λ (o : Option Json). old ++ (member_text true (codes "timestamp") (unwrap_or o (string stored)) ++ last)) (sym c.in-None.is ∙ c.get.ensures)) c.put_own_times.ensures.ok
