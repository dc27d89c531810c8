use Rattle.std.proofs.Common.{◌++◌, length, List, ℕ, Option, Some, None, true, codes, sym, ap, subst, ◌∙◌}
use Rattle.std.proofs.lemmas.Result.{on_ok_weaker}
use Rattle.lrs_json.specs.Json.{no_members, string}
use Rattle.lrs_json.specs.Texts.{name_text}
use Rattle.xapi_format.specs.Completed.{given_or}
use Rattle.xapi_format.proofs.Appending.{first_member, member_parts}
use Rattle.xapi_received.specs.Received.{HasSpan}
use Rattle.xapi_received.specs.declared.marks.ByteSpan.{ByteSpan}
use Rattle.xapi_received.proofs.Marked.{given_member}
use Rattle.xapi_received.proofs.adding.put_version.Goals as goal

pub of-requires : goal.of-requires
of-requires c = subst (λ (o : Option ByteSpan). HasSpan (length c.args.text.now) o) c.in-Some.is c.requires

pub returns-in-Some-clause-ok : goal.returns-in-Some-clause-ok
returns-in-Some-clause-ok c = λ received given.
    let old = c.args.into.now.items in
    let version = given_or (codes "version") received (codes "1.0.0") in
    on_ok_weaker c.put_given_version.result (λ e. e ∙ (ap (λ (t : List ℕ). old ++ ((name_text true (codes "version") ++ t) ++ codes "}")) c.of.ensures
    ∙ (ap (λ (t : List ℕ). old ++ (t ++ codes "}")) (given_member c.args.text.now (codes "version") (codes "1.0.0") received c.args.version (Some c.in-Some.span) c.in-Some.is given)
    ∙ ap (λ (t : List ℕ). old ++ t) (sym (first_member true (codes "version") version no_members))))) c.put_given_version.ensures.ok

pub returns-in-None-clause-ok : goal.returns-in-None-clause-ok
returns-in-None-clause-ok c = λ received given.
    let old = c.args.into.now.items in
    let version = given_or (codes "version") received (codes "1.0.0") in
    on_ok_weaker c.put_own_version.result (λ e. e ∙ (ap (λ (t : List ℕ). old ++ t) (first_member true (codes "version") (string (codes "1.0.0")) no_members)
    ∙ (ap (λ (t : List ℕ). old ++ (t ++ codes "}")) (sym (member_parts true (codes "version") (string (codes "1.0.0")))
    ∙ given_member c.args.text.now (codes "version") (codes "1.0.0") received c.args.version None c.in-None.is given)
    ∙ ap (λ (t : List ℕ). old ++ t) (sym (first_member true (codes "version") version no_members))))) c.put_own_version.ensures.ok
