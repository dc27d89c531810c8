use Rattle.std.proofs.Common.{◌∙◌}
use Rattle.lrs_json.proofs.Escaping.{run_put, byte_put}
use Rattle.lrs_json.proofs.appending.put_run.Goals as goal

pub returns-in_ok-put_byte-in-Some-clause-ok : goal.returns-in_ok-put_byte-in-Some-clause-ok
returns-in_ok-put_byte-in-Some-clause-ok c =
    byte_put _ _ _ _ _ c.in-Some.ensures.cases.0 c.in_ok-put_byte-in-Some.ensures.ok ∙ run_put _ _ _ _ _ _ c.plain_len.ensures.value c.split_at.ensures.front c.split_at.ensures.back c.in_ok-put.ensures.ok

pub returns-in-None-clause-ok : goal.returns-in-None-clause-ok
returns-in-None-clause-ok c = run_put _ _ _ _ _ _ c.plain_len.ensures.value c.split_at.ensures.front c.split_at.ensures.back c.in_ok-put.ensures.ok
