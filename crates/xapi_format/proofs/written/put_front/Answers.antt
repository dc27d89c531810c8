use Rattle.std.proofs.Common.{◌++◌, true, false, codes}
use Rattle.std.proofs.lemmas.Result.{on_ok_weaker}
use Rattle.lrs_json.specs.Json.{string}
use Rattle.lrs_json.specs.Texts.{member_text}
use Rattle.lrs_json.proofs.Pieces.{behind}
use Rattle.xapi_format.specs.Authorities.{authority_name}
use Rattle.xapi_format.proofs.written.put_front.Goals as goal

pub returns : goal.returns
returns c =
    let names = member_text false (codes "objectType") (string (codes "Agent")) ++ member_text true (codes "name") (string (authority_name c.args.authority.now)) in
    on_ok_weaker c.put_agent_names.result (λ e. behind c.args.into.now.items c.put.new.into.items c.put_agent_names.new.into.items (codes ",\"authority\":{") names c.in_ok-put.ensures.ok e) c.put_agent_names.ensures.ok
