use Rattle.std.proofs.Common.{ap, sym, ◌∙◌}
use Rattle.xapi_values.specs.Kinds.{kind_named}
use Rattle.xapi_reduced.proofs.Unchanged.{not_named}
use Rattle.xapi_reduced.proofs.kinds.kind_named.Goals as goal

pub returns-in-Some : goal.returns-in-Some
returns-in-Some c = c.kind_of_word.ensures ∙ ap kind_named (sym c.in-Some.ensures)

pub returns-in-None : goal.returns-in-None
returns-in-None c = sym (not_named c.args.kind.now c.in-None.ensures)
