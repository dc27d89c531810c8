use Rattle.std.proofs.Common.{refl}
use Rattle.lrs_json.specs.View.{view}
use Rattle.xapi_received.proofs.Drafting.{tree_marked}
use Rattle.xapi_received.proofs.draft.Draft.put_tree.Goals as goal

pub returns : goal.returns
returns c = tree_marked c.put_tree.result (view c.args.tree.now) c.args.self.now (record c.args.self.now { text = c.put_tree.new.into }) refl refl c.put_tree.ensures.ok c.put_tree.ensures.spellable
