use Rattle.std.proofs.Common.{sym, ◌∙◌, ap, subst}
use Rattle.xapi_search.specs.Sought.{SeenAscends, is_seen}
use Rattle.xapi_search.specs.declared.sought.Seen.{Seen}
use Rattle.xapi_search.proofs.sought.Sought.sees.Goals as goal

pub contains-requires : goal.contains-requires
contains-requires c = subst (λ (seen : Seen). SeenAscends seen) c.in-These.is c.requires.seen

pub returns-in-These : goal.returns-in-These
returns-in-These c = c.contains.ensures ∙ ap (λ (seen : Seen). is_seen seen c.args.position) (sym c.in-These.is)
