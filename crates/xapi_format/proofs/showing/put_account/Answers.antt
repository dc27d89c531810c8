use Rattle.std.proofs.Common.{codes}
use Rattle.std.proofs.lemmas.Result.{on_ok_weaker}
use Rattle.lrs_json.specs.Json.{string}
use Rattle.xapi_format.specs.Authorities.{account_name, home_page}
use Rattle.xapi_format.proofs.Appending.{account_pieces}
use Rattle.xapi_format.proofs.showing.put_account.Goals as goal

pub returns-clause-ok : goal.returns-clause-ok
returns-clause-ok c =
    on_ok_weaker c.put_account_members.result (λ e. account_pieces (codes "account") (codes "homePage") (codes "name") (string home_page) (string (account_name c.args.authority.now)) c.args.into.now.items c.put_name.new.into.items
    c.put.new.into.items c.put_account_members.new.into.items c.in_ok-put_name.ensures.ok c.in_ok-put.ensures.ok e) c.put_account_members.ensures.ok
