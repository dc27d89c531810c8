use Rattle.std.proofs.Common.{◌≡◌, IfOk, ap, subst}
use Rattle.lrs_json.specs.declared.tree.Tree.{Tree}
use Rattle.xapi_statement.specs.Stored.{StoredStatement}
use Rattle.xapi_statement.proofs.held.HeldStatement.received.Goals as goal

pub returns : goal.returns
returns c =
    subst (λ (t : Tree). IfOk c.tree.result (λ found. found ≡ t)) (ap (λ (s : StoredStatement). s.received) c.self.view_is) c.tree.ensures
