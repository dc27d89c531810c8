use Rattle.std.proofs.Common.{◌++◌, List, ℕ, [], ◌∷◌, Option, true, codes, ap, sym, ◌∙◌}
use Rattle.std.specs.Prelude.{unwrap_or}
use Rattle.std.proofs.lemmas.Result.{on_ok_weaker}
use Rattle.lrs_json.specs.Json.{Json, no_members, string}
use Rattle.lrs_json.specs.Texts.{name_text}
use Rattle.lrs_json.specs.View.{members_of}
use Rattle.lrs_json.specs.Written.{members_text}
use Rattle.xapi_format.proofs.Appending.{first_member, member_parts}
use Rattle.xapi_reduced.proofs.adding.put_version.Goals as goal

pub returns-in-Some-clause-ok : goal.returns-in-Some-clause-ok
returns-in-Some-clause-ok c =
    let old = c.args.into.now.items in
    let name = codes "version" in
    on_ok_weaker c.put_given_version.result (λ e. e ∙ (ap (λ (t : List ℕ). old ++ ((name_text true name ++ t) ++ codes "}")) c.bytes.ensures
    ∙ (ap (λ (t : List ℕ). old ++ (t ++ codes "}")) (member_parts true name c.in-Some.given)
    ∙ (ap (λ (t : List ℕ). old ++ t) (sym (first_member true name c.in-Some.given no_members))
    ∙ ap (λ (o : Option Json). old ++ members_text true (members_of ((name, unwrap_or o (string (codes "1.0.0"))) ∷ []))) (sym c.in-Some.is ∙ c.get.ensures))))) c.put_given_version.ensures.ok

pub returns-in-None-clause-ok : goal.returns-in-None-clause-ok
returns-in-None-clause-ok c =
    let old = c.args.into.now.items in
    on_ok_weaker c.put_own_version.result (λ e. e
    ∙ ap (λ (o : Option Json). old ++ members_text true (members_of ((codes "version", unwrap_or o (string (codes "1.0.0"))) ∷ []))) (sym c.in-None.is ∙ c.get.ensures)) c.put_own_version.ensures.ok
