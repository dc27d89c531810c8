use Rattle.std.proofs.Common.{true, false, codes}
use Rattle.std.proofs.lemmas.Result.{on_ok_weaker}
use Rattle.lrs_json.specs.Json.{string}
use Rattle.lrs_json.specs.Texts.{member_text}
use Rattle.lrs_json.proofs.Pieces.{three_pieces}
use Rattle.xapi_format.specs.Authorities.{account_name, home_page}
use Rattle.xapi_format.proofs.showing.put_account_members.Goals as goal

pub returns-clause-ok : goal.returns-clause-ok
returns-clause-ok c =
    on_ok_weaker c.put.result (λ e. three_pieces (member_text false (codes "homePage") (string home_page)) (member_text true (codes "name") (string (account_name c.args.authority.now))) (codes "}}")
    c.args.into.now.items c.put_text.new.into.items c.put_account_name.new.into.items c.put.new.into.items c.in_ok-put_text.ensures.ok c.in_ok-put_account_name.ensures.ok e) c.put.ensures.ok
