use Rattle.xapi_search.proofs.sought.Sought.of.Goals as goal

pub returns-clause-tells : goal.returns-clause-tells
returns-clause-tells c = record { seen = c.seen_of-seen.ensures.those; passes = c.in_ok-filters.ensures.narrows }

pub returns-clause-ascending : goal.returns-clause-ascending
returns-clause-ascending c = record { seen = c.seen_of-seen.ensures.ascending; filters = c.in_ok-filters.ensures.ascending }
