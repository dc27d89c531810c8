use Rattle.lrs_refusals.proofs.meeting.refused_put.Goals as goal

pub returns-clause-refused : goal.returns-clause-refused
returns-clause-refused c = c.in_ok-meeting.ensures.refused

pub returns-clause-known : goal.returns-clause-known
returns-clause-known c = c.in_ok-meeting.ensures.held
