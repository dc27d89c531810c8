-- What stands beside the text is what the statement says of its own tree.
use Rattle.std.proofs.Common.{sym, subst}
use Rattle.lrs_json.specs.declared.tree.Tree.{Tree}
use Rattle.xapi_statement.specs.Held.{StandsBeside}
use Rattle.xapi_statement.proofs.Holding.{same_parts}
use Rattle.xapi_statement.proofs.held.HeldStatement.with_text.Goals as goal

pub invariant_of-result : goal.invariant_of-result
invariant_of-result c =
    let beside : StandsBeside c.args.statement.now.received c.target-target.result c.registration-registration.result c.is_voiding-is_voiding.result =
    record { target = c.target-target.ensures; registration = c.registration-registration.ensures; voiding = c.is_voiding-is_voiding.ensures; unbroken = c.requires.unbroken } in
    subst (λ (t : Tree). StandsBeside t c.target-target.result c.registration-registration.result c.is_voiding-is_voiding.result) (sym c.requires.received) beside

pub returns : goal.returns
returns c =
    same_parts c.args.statement.now c.args.received c.id-id.result c.stored-stored.result c.args.authority c.requires.received c.id-id.ensures c.stored-stored.ensures c.requires.authority
