use Rattle.std.proofs.Common.{[], ◌∷◌, ◌++◌, ap, ◌∙◌}
use Rattle.std.proofs.lemmas.Result.{on_ok_weaker}
use Rattle.xapi_values.specs.LrsNamesIds.{id_text}
use Rattle.xapi_format.proofs.Added.{id_member}
use Rattle.xapi_format.proofs.Plain.{plain_id}
use Rattle.xapi_format.proofs.adding.put_id.Goals as goal
use Rattle.lrs_json.proofs.Pieces.{three_pieces}

pub returns-clause-ok : goal.returns-clause-ok
returns-clause-ok c =
    let old = c.args.into.now.items in
    let id = id_text c.args.id.now in
    on_ok_weaker c.put-3.result (λ e. three_pieces c.before_id.result.now c.text-text.result (34 ∷ []) old c.put.new.into.items c.put-2.new.into.items c.put-3.new.into.items c.in_ok-put.ensures.ok c.in_ok-put-2.ensures.ok e
    ∙ ap (λ t. old ++ (c.before_id.result.now ++ (t ++ 34 ∷ []))) c.text-text.ensures.text ∙ ap (λ t. old ++ (t ++ (id ++ 34 ∷ []))) c.before_id.ensures
    ∙ ap (λ t. old ++ t) (id_member c.args.later id (plain_id c.args.id.now))) c.put-3.ensures.ok
