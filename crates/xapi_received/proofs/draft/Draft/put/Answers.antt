use Rattle.std.proofs.Common.{refl}
use Rattle.std.proofs.lemmas.Result.{on_ok_weaker}
use Rattle.xapi_received.proofs.Drafting.{text_added}
use Rattle.xapi_received.proofs.draft.Draft.put.Goals as goal

pub returns : goal.returns
returns c = on_ok_weaker c.put.result (λ e. text_added c.args.self.now (record c.args.self.now { text = c.put.new.into }) (c.args.bytes.now) e refl refl) c.put.ensures.ok
