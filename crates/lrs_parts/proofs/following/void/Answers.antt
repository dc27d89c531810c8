use Rattle.lrs_parts.proofs.following.void.Goals as goal

pub returns-clause-follows : goal.returns-clause-follows
returns-clause-follows c = λ before behind follows. record {
  sessions = c.void.ensures.stands before behind follows.sessions;
  counted = c.discount.ensures before behind follows.counted;
}
