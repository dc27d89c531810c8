use Rattle.lrs_http.proofs.SendLemmas.{sends_piece}
use Rattle.lrs_media.proofs.Trimming.{rest_of}
use Rattle.lrs_http.proofs.response.write_from.Goals as goal

pub returns-clause-taken : goal.returns-clause-taken
returns-clause-taken g c = sends_piece c.args.bytes.now _ c.args.done _ _ _ (rest_of c.args.done c.args.bytes.now) c.in_ok-write.ensures.taken
