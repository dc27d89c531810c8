use Rattle.lrs_parts.proofs.following.take_in.Goals as goal

pub returns-clause-follows : goal.returns-clause-follows
returns-clause-follows c = λ those few follows. record {
  sessions = c.install.ensures.stands those few follows.sessions;
  counted = c.count.ensures those few follows.counted;
}
