use Rattle.std.proofs.Common.{refl}
use Rattle.xapi_received.proofs.Marked.{read_back, received_at}
use Rattle.xapi_received.specs.Offsets.{ending_at}
use Rattle.xapi_received.specs.Excerpts.{listed}
use Rattle.xapi_received.specs.Received.{tree_in}
use Rattle.xapi_received.proofs.received.ReceivedText.tree.Goals as goal

pub returns : goal.returns
returns c =
    let fields = c.self.inside in
    let is = received_at fields.text.items c.as_slice.result.now (listed fields.excerpts) (listed fields.excerpts) (ending_at fields.offsets) (tree_in fields.tree.items) c.args.self.now c.as_slice.ensures.value refl c.self.view_is c.self.invariant in
    read_back c.reread.result c.as_slice.result.now c.args.self.now is.spellable is.spelled c.reread.ensures
