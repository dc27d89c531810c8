use Rattle.xapi_received.specs.Excerpts.{listed}
use Rattle.xapi_received.proofs.Marked.{finished}
use Rattle.xapi_received.proofs.received.ReceivedText.of.Goals as goal

pub marked-requires : goal.marked-requires
marked-requires c =
    finished c.in_ok-draft.draft c.in_ok-draft.ensures.text c.in_ok-draft.ensures.excerpts c.in_ok-draft.ensures.from c.args.tree.now c.mark_tree.new.draft c.in_ok-ending.ending c.shrink.new.self.text.items (listed c.shrink.new.self.excerpts)
    c.in_ok-ending.ensures c.shrink.ensures.text c.shrink.ensures.excerpts
