use Rattle.std.proofs.Common.{[], ◌∷◌, ◌++◌, true, codes, ap, ◌∙◌}
use Rattle.std.proofs.lemmas.Result.{on_ok_weaker}
use Rattle.lrs_json.specs.Json.{string}
use Rattle.lrs_json.specs.Texts.{member_text}
use Rattle.lrs_json.proofs.Pieces.{three_pieces}
use Rattle.xapi_format.proofs.Added.{stored_member}
use Rattle.xapi_format.proofs.Plain.{plain_moment}
use Rattle.xapi_format.proofs.adding.put_stored.Goals as goal

pub returns-clause-ok : goal.returns-clause-ok
returns-clause-ok c =
    let old = c.args.into.now.items in
    let text = c.moment_text-text.result in
    on_ok_weaker c.put-3.result (λ e. three_pieces (codes ",\"stored\":\"") text (34 ∷ []) old c.put.new.into.items c.put-2.new.into.items c.put-3.new.into.items c.in_ok-put.ensures.ok c.in_ok-put-2.ensures.ok e
    ∙ ap (λ t. old ++ t) (stored_member text (plain_moment c.args.stored text c.moment_text-text.ensures.text)) ∙ ap (λ t. old ++ member_text true (codes "stored") (string t)) c.moment_text-text.ensures.exact) c.put-3.ensures.ok
