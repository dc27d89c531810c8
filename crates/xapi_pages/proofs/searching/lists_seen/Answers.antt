use Rattle.std.proofs.Common.{ap, subst, sym}
use Rattle.xapi_search.specs.Sought.{SeenAscends, is_seen}
use Rattle.xapi_search.specs.declared.sought.Seen.{Seen}
use Rattle.xapi_pages.proofs.searching.lists_seen.Goals as goal

pub returns-in-Nothing-clause-stands : goal.returns-in-Nothing-clause-stands
returns-in-Nothing-clause-stands c = λ k. ap (λ (seen : Seen). is_seen seen k) (sym c.in-Nothing.is)

pub returns-in-All-clause-stands : goal.returns-in-All-clause-stands
returns-in-All-clause-stands c = λ k. ap (λ (seen : Seen). is_seen seen k) (sym c.in-All.is)

pub returns-in-These-clause-stands : goal.returns-in-These-clause-stands
returns-in-These-clause-stands c = λ k. ap (λ (seen : Seen). is_seen seen k) (sym c.in-These.is)

pub returns-in-These-clause-ascending : goal.returns-in-These-clause-ascending
returns-in-These-clause-ascending c = (tt, subst (λ (seen : Seen). SeenAscends seen) c.in-These.is c.requires)
