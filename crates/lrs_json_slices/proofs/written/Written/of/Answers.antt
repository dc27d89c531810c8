use Rattle.lrs_json_slices.proofs.Firsts.{seen_as}
use Rattle.lrs_json_slices.proofs.written.Written.of.Goals as goal

pub returns : goal.returns
returns c = λ j s e. seen_as c.args.bytes.now c.result-1.given.0 j s e
