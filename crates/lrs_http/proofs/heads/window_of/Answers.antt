use Rattle.lrs_media.proofs.Trimming.{take_min}
use Rattle.lrs_http.proofs.heads.window_of.Goals as goal
use Rattle.lrs_http.specs.declared.heads.TheConstants.{LONGEST_HEAD}

pub returns-clause-value : goal.returns-clause-value
returns-clause-value c = take_min LONGEST_HEAD c.min.result c.args.bytes.now c.min.ensures
