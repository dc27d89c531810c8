use Rattle.xapi_statement_keys.proofs.Growing.{adds_one}
use Rattle.xapi_statement_keys.proofs.adding.push.Goals as goal

pub returns : goal.returns
returns c = adds_one c.args.keys.now.items c.push.new.self.items c.args.key c.in_ok-push.ensures.items
