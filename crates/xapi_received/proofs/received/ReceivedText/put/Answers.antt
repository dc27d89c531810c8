use Rattle.std.proofs.Common.{◌++◌, List, ℕ, refl, ap, ◌∙◌}
use Rattle.std.proofs.lemmas.Result.{on_ok_weaker}
use Rattle.xapi_received.proofs.Marked.{received_at}
use Rattle.xapi_received.specs.Offsets.{ending_at}
use Rattle.xapi_received.specs.Excerpts.{listed}
use Rattle.xapi_received.specs.Received.{tree_in}
use Rattle.xapi_received.proofs.received.ReceivedText.put.Goals as goal

pub returns-clause-ok : goal.returns-clause-ok
returns-clause-ok c =
    let fields = c.self.inside in
    let is = received_at fields.text.items c.as_slice.result.now (listed fields.excerpts) (listed fields.excerpts) (ending_at fields.offsets) (tree_in fields.tree.items) c.args.self.now c.as_slice.ensures.value refl c.self.view_is c.self.invariant in
    on_ok_weaker c.put.result (λ e. e ∙ ap (λ (t : List ℕ). c.args.into.now.items ++ t) is.spelled) c.put.ensures.ok
