use Rattle.std.proofs.Common.{rules}
use Rattle.lrs_app.proofs.Serving.{counted_all}
use Rattle.lrs_app.proofs.serve.count_responses.Goals as goal

pub returns : goal.returns
returns c = counted_all c.args.talks.now c.loop-of_one.of_one-index c.loop-of_one.responses (search rules) c.loop-of_one.invariant.0 c.loop-of_one.invariant.1
