use Rattle.std.proofs.Common.{sym, ◌∙◌}
use Rattle.lrs_routes.specs.Operations.{form_of}
use Rattle.lrs_routes.proofs.PathParts.{of_part}
use Rattle.lrs_routes.proofs.forms.meant_there.Goals as goal

pub command-requires-clause-part : goal.command-requires-clause-part
command-requires-clause-part c =
    of_part (form_of c.args.operation).part c.args.path.now c.in-Ok-Some.part (sym c.in-Ok-Some.ensures ∙ c.in-Ok-Some.field-0-is)
