-- The tree that is read back is the one of which nothing is broken.
use Rattle.std.proofs.Common.{◌∙◌, refl, sym, subst}
use Rattle.std.specs.Prelude.{IsTrue}
use Rattle.lrs_json.specs.View.{view}
use Rattle.lrs_json.specs.declared.tree.Tree.{Tree}
use Rattle.xapi_statement.specs.Statement.{is_statement}
use Rattle.xapi_statement.proofs.Holding.{of_parts, same_parts}
use Rattle.xapi_statement.proofs.held.HeldStatement.whole.Goals as goal

pub of-requires : goal.of-requires
of-requires c =
    subst (λ (t : Tree). IsTrue (is_statement (view t))) (sym c.in_ok-tree.ensures) c.self.invariant.unbroken

pub returns : goal.returns
returns c =
    let inside = of_parts c.self.inside.received c.self.inside.id c.self.inside.stored c.self.inside.authority in
    c.complete.ensures
    ∙ (same_parts inside _ _ _ _ (c.of.ensures ∙ c.in_ok-tree.ensures) refl refl (c.in_ok-authority.ensures ∙ c.get.ensures) ∙ c.self.view_is)
