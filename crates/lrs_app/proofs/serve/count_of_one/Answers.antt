use Rattle.std.proofs.Common.{rules}
use Rattle.lrs_app.proofs.Serving.{counted_one}
use Rattle.lrs_app.proofs.serve.count_of_one.Goals as goal

pub returns : goal.returns
returns c = counted_one c.args.talks.now c.loop-talk.talk-index c.loop-talk.responses (search rules) c.loop-talk.invariant.0 c.loop-talk.invariant.1
