use Rattle.std.proofs.lemmas.Result.{on_ok_weaker}
use Rattle.lrs_json.specs.View.{view}
use Rattle.xapi_received.proofs.Drafting.{in_brackets}
use Rattle.xapi_received.proofs.draft.Draft.put_in_brackets.Goals as goal

pub returns : goal.returns
returns c =
    on_ok_weaker c.cut-2.result (λ closes. in_brackets (view c.args.tree.now) c.args.self.now c.cut.new.self c.put_tree.new.self c.cut-2.new.self c.in_ok-cut.ensures.adds c.in_ok-put_tree.ensures closes)
    c.cut-2.ensures.adds
