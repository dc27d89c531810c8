use Rattle.std.proofs.Common.{codes, ◌++◌}
use Rattle.std.proofs.lemmas.Result.{on_ok_weaker}
use Rattle.lrs_json.specs.Written.{comma_if, quoted}
use Rattle.lrs_fields.proofs.Joined.{value_behind}
use Rattle.lrs_fields.proofs.agents.put_account.Goals as goal

pub returns-clause-ok : goal.returns-clause-ok
returns-clause-ok c =
    on_ok_weaker c.put_home.result (λ written.
    value_behind _ _ _ (comma_if c.args.later ++ quoted (codes "account")) _ c.in_ok-put_name.ensures.ok written) c.put_home.ensures.ok
