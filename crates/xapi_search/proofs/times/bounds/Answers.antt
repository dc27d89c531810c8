use Rattle.xapi_search.proofs.times.bounds.Goals as goal

pub returns-clause-times : goal.returns-clause-times
returns-clause-times c = record { early = c.since_bound-first.ensures; late = c.until_bound-end.ensures.late }
