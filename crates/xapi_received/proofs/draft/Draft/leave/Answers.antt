use Rattle.std.proofs.Common.{◌∙◌}
use Rattle.std.proofs.lemmas.Result.{on_ok_weaker}
use Rattle.xapi_received.proofs.Drafting.{left_out}
use Rattle.xapi_received.proofs.draft.Draft.leave.Goals as goal

pub returns-clause-adds : goal.returns-clause-adds
returns-clause-adds c =
    on_ok_weaker c.skip.result (λ ends. left_out c.args.self.now c.pause.new.self c.skip.new.self c.args.bytes.now c.in_ok-pause.ensures.adds c.in_ok-pause.ensures.ends
    (c.skip.ensures.text ∙ c.in_ok-put.ensures.ok) c.skip.ensures.excerpts ends) c.skip.ensures.ends
