use Rattle.std.proofs.Common.{refl}
use Rattle.lrs_json.specs.View.{view}
use Rattle.xapi_received.proofs.Marked.{received_at}
use Rattle.xapi_received.specs.Offsets.{ending_at}
use Rattle.xapi_received.specs.Excerpts.{listed}
use Rattle.xapi_received.specs.Received.{tree_in}
use Rattle.xapi_received.proofs.received.ReceivedText.written.Goals as goal

pub of-requires : goal.of-requires
of-requires c =
    let fields = c.self.inside in
    let is = received_at fields.text.items c.as_slice.result.now (listed fields.excerpts) (listed fields.excerpts) (ending_at fields.offsets) (tree_in fields.tree.items) c.args.self.now c.as_slice.ensures.value refl c.self.view_is c.self.invariant in
    (view c.args.self.now, (∣ is.spellable ∣₁, is.spelled))

pub returns : goal.returns
returns c =
    let fields = c.self.inside in
    let is = received_at fields.text.items c.as_slice.result.now (listed fields.excerpts) (listed fields.excerpts) (ending_at fields.offsets) (tree_in fields.tree.items) c.args.self.now c.as_slice.ensures.value refl c.self.view_is c.self.invariant in
    c.of.ensures (view c.args.self.now) is.spellable is.spelled
