use Rattle.std.proofs.Common.{◌++◌, ap, ◌∙◌}
use Rattle.std.proofs.lemmas.Result.{on_ok_weaker}
use Rattle.xapi_format.proofs.Added.{version_last}
use Rattle.xapi_format.proofs.adding.put_own_version.Goals as goal

pub returns-clause-ok : goal.returns-clause-ok
returns-clause-ok c =
    on_ok_weaker c.put.result (λ e. e ∙ ap (λ t. c.args.into.now.items ++ t) version_last) c.put.ensures.ok
