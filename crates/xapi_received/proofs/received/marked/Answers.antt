use Rattle.std.proofs.Common.{◌≡◌, List, [], ◌∷◌, ◌++◌, Option, sym, ap, subst, ◌∙◌}
use Rattle.lrs_json.specs.declared.tree.Tree.{Tree}
use Rattle.xapi_received.specs.Offsets.{ending_at}
use Rattle.xapi_received.specs.Excerpts.{listed}
use Rattle.xapi_received.specs.Received.{IsReceived, tree_in}
use Rattle.xapi_received.specs.declared.marks.Ending.{Ending}
use Rattle.xapi_received.proofs.received.marked.Goals as goal

pub invariant_of-result : goal.invariant_of-result
invariant_of-result c =
    let tree = c.args.tree.now in
    let noted : c.and-noted.result.items ≡ tree ∷ [] = c.and-noted.ensures ∙ ap (λ (ts : List Tree). ts ++ (tree ∷ [])) c.new-nothing.ensures in
    let told = subst (λ (e : Option Ending). IsReceived c.args.text.items (listed c.args.excerpts) e tree) (sym c.of-offsets.ensures) c.requires in
    subst (λ (ts : List Tree). IsReceived c.args.text.items (listed c.args.excerpts) (ending_at c.of-offsets.result) (tree_in ts)) (sym noted) told

pub returns : goal.returns
returns c =
    let tree = c.args.tree.now in
    let noted : c.and-noted.result.items ≡ tree ∷ [] = c.and-noted.ensures ∙ ap (λ (ts : List Tree). ts ++ (tree ∷ [])) c.new-nothing.ensures in
    ap tree_in noted
