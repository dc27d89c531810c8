use Rattle.xapi_statement_keys.specs.Keys.{has_key}
use Rattle.xapi_statement_keys.proofs.Growing.{adds_all}
use Rattle.xapi_statement_keys.proofs.keys.Keys.of.Goals as goal

pub returns : goal.returns
returns c =
    adds_all c.new-items.result.items c.push_keys.new.keys.items (λ k. has_key k c.args.statement.now) c.new-items.ensures.items c.in_ok-push_keys.ensures
