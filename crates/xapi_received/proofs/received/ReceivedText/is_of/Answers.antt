use Rattle.std.proofs.Common.{refl, ap, sym, ◌∙◌}
use Rattle.lrs_json.specs.Written.{written_tree}
use Rattle.xapi_received.proofs.Marked.{received_at}
use Rattle.xapi_received.proofs.Spelling.{one_tree}
use Rattle.xapi_received.specs.Offsets.{ending_at}
use Rattle.xapi_received.specs.Excerpts.{listed}
use Rattle.xapi_received.specs.Received.{tree_in}
use Rattle.xapi_received.proofs.received.ReceivedText.is_of.Goals as goal

pub returns : goal.returns
returns c =
    let fields = c.self.inside in
    let is = received_at fields.text.items c.as_slice.result.now (listed fields.excerpts) (listed fields.excerpts) (ending_at fields.offsets) (tree_in fields.tree.items) c.args.self.now c.as_slice.ensures.value refl c.self.view_is c.self.invariant in (
      λ holds. one_tree c.args.tree.now c.args.self.now (c.is_written.ensures.spellable holds) is.spellable (c.is_written.ensures.same.0 holds ∙ is.spelled),
      λ same. c.is_written.ensures.same.1 (ap written_tree same ∙ sym is.spelled),
    )
