use Rattle.lrs_json_reader.proofs.Scan.{scan_told}
use Rattle.lrs_json_reader.proofs.depth.is_too_deep.Goals as goal

pub returns : goal.returns
returns c = scan_told c.args.depth c.args.bytes.now c.reaches.result c.reaches.ensures
