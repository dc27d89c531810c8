use Rattle.std.proofs.Common.{◌≡◌, ap, subst}
use Rattle.std.specs.Prelude.{◌↔◌, IsTrue}
use Rattle.lrs_json.specs.declared.tree.Tree.{Tree}
use Rattle.xapi_statement.specs.Stored.{StoredStatement}
use Rattle.xapi_statement.proofs.held.HeldStatement.is_received_as.Goals as goal

pub returns : goal.returns
returns c =
    subst (λ (t : Tree). IsTrue c.is_of.result ↔ (c.args.tree.now ≡ t)) (ap (λ (s : StoredStatement). s.received) c.self.view_is) c.is_of.ensures
