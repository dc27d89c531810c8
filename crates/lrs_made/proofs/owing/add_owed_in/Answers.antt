use Rattle.std.proofs.Common.{◌≡◌, ◌++◌, ◌∙◌, List, OnOk, ap, sym, subst}
use Rattle.lrs_history.specs.Made.{left_behind, made_under, owed_jsons}
use Rattle.lrs_ids.specs.Ids.{Supply}
use Rattle.lrs_ids.specs.IdSupply.{GiveSame, left_of}
use Rattle.lrs_json.specs.Json.{Json}
use Rattle.lrs_made.specs.Lent.{seen_enrolled}
use Rattle.lrs_parts.specs.Parts.{state_of}
use Rattle.lrs_history.specs.LrsStateState.{used_in}
use Rattle.xapi_statement.specs.Stored.{StoredStatement}
use Rattle.lrs_made.proofs.Same.{behind_mapped}
use Rattle.lrs_made.proofs.Supplied.{value_of}
use Rattle.lrs_made.proofs.owing.add_owed_in.Goals as goal

pub returns-clause-made : goal.returns-clause-made
returns-clause-made c =
    let st = state_of c.args.parts.now in
    let supply : Supply = left_of (used_in st) c.args.supply.now in
    subst (λ (js : List Json). OnOk c.make_under.result (c.make_under.new.made.items ≡ c.args.made.now.items ++ made_under supply c.args.moment js))
    (c.in_ok-said.ensures ∙ ap (λ (ss : List StoredStatement). owed_jsons st c.args.session.now ss (seen_enrolled c.args.enrolled.now)) c.as_slice.ensures.value)
    c.make_under.ensures.made

-- one id is gone for each that was said
pub returns-clause-left : goal.returns-clause-left
returns-clause-left c =
    let st = state_of c.args.parts.now in
    let supply : Supply = left_of (used_in st) c.args.supply.now in
    subst (λ (left : Supply). OnOk c.make_under.result (GiveSame (left_of (used_in st) c.make_under.new.supply) left))
    (sym (behind_mapped value_of supply c.in_ok-said.said.items)
    ∙ ap (λ (js : List Json). left_behind supply js)
    (c.in_ok-said.ensures ∙ ap (λ (ss : List StoredStatement). owed_jsons st c.args.session.now ss (seen_enrolled c.args.enrolled.now)) c.as_slice.ensures.value))
    c.make_under.ensures.left
