use Rattle.lrs_json.specs.View.{view}
use Rattle.xapi_received.proofs.Marked.{whole_other}
use Rattle.xapi_received.proofs.marking.mark_other.Goals as goal

pub returns : goal.returns
returns c = λ none. whole_other (view c.args.tree.now) c.args.draft.now c.put_tree.new.self c.pause.new.self c.in_ok-put_tree.ensures c.in_ok-pause.ensures.adds c.in_ok-pause.ensures.ends none
