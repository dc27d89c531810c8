use Rattle.std.proofs.lemmas.List.{take_rest}
use Rattle.lrs_json_reader.proofs.Scan.{plain_passed}
use Rattle.lrs_json_reader.proofs.depth.ScanState.after_plain.Goals as goal

pub returns-in-Inside-clause-same : goal.returns-in-Inside-clause-same
returns-in-Inside-clause-same c = λ limit depth l. plain_passed _ c.args.bytes.now _ _ c.in-Inside.is c.plain_len.ensures.value (take_rest c.args.bytes.now c.plain_len.result) limit depth l
