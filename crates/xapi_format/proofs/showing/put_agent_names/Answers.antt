use Rattle.std.proofs.Common.{◌++◌, true, false, codes, ap, ◌∙◌}
use Rattle.std.proofs.lemmas.Result.{on_ok_weaker}
use Rattle.lrs_json.specs.Json.{string}
use Rattle.lrs_json.specs.Texts.{member_text}
use Rattle.lrs_json.proofs.Pieces.{behind}
use Rattle.xapi_format.proofs.showing.put_agent_names.Goals as goal

pub returns-clause-ok : goal.returns-clause-ok
returns-clause-ok c =
    let old = c.args.into.now.items in
    let first = member_text false (codes "objectType") (string (codes "Agent")) in
    on_ok_weaker c.put_text-2.result (λ e. behind old c.put_text.new.into.items c.put_text-2.new.into.items first (member_text true (codes "name") (string c.name.result.now)) c.in_ok-put_text.ensures.ok e
    ∙ ap (λ name. old ++ (first ++ member_text true (codes "name") (string name))) c.name.ensures) c.put_text-2.ensures.ok
