use Rattle.std.proofs.Common.{◌≡◌, drop}
use Rattle.xapi_statement.specs.Statements.{held_under}
use Rattle.lrs_parts.proofs.trees.first_under.Given as goal

-- none so far has the id
abbrev pub invariant-loop-tree : goal.invariant-loop-tree
invariant-loop-tree l = held_under l.id (drop l.tree-index l.trees) ≡ held_under l.id l.trees
