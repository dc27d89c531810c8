use Rattle.lrs_time.proofs.SecondsLemmas.{seconds_duration, seconds_read_back}
use Rattle.lrs_time.proofs.seconds.seconds_text.Goals as goal

pub returns-in-Ok-clause-duration : goal.returns-in-Ok-clause-duration
returns-in-Ok-clause-duration c = seconds_duration c.args.ms

pub returns-in-Ok-clause-reads_back : goal.returns-in-Ok-clause-reads_back
returns-in-Ok-clause-reads_back c = seconds_read_back c.args.ms

pub returns-in-Err-clause-duration : goal.returns-in-Err-clause-duration
returns-in-Err-clause-duration c = seconds_duration c.args.ms

pub returns-in-Err-clause-reads_back : goal.returns-in-Err-clause-reads_back
returns-in-Err-clause-reads_back c = seconds_read_back c.args.ms
