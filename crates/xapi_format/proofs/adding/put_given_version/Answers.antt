use Rattle.std.proofs.Common.{◌++◌, codes, ap, ◌∙◌}
use Rattle.std.proofs.lemmas.Result.{on_ok_weaker}
use Rattle.xapi_format.proofs.Added.{version_name}
use Rattle.xapi_format.proofs.adding.put_given_version.Goals as goal
use Rattle.lrs_json.proofs.Pieces.{behind}

pub returns-clause-ok : goal.returns-clause-ok
returns-clause-ok c =
    let old = c.args.into.now.items in
    on_ok_weaker c.put.result (λ e. behind old c.put_both.new.into.items c.put.new.into.items (codes ",\"version\":" ++ c.args.given.now) (codes "}") c.in_ok-put_both.ensures.ok e
    ∙ ap (λ t. old ++ ((t ++ c.args.given.now) ++ codes "}")) version_name) c.put.ensures.ok
