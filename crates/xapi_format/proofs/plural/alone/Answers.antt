use Rattle.std.proofs.Common.{List, [], ◌∷◌, ◌++◌, map, ap, ◌∙◌}
use Rattle.lrs_json.specs.Json.{Json, array, element, no_elements}
use Rattle.lrs_json.specs.View.{elements_of, view}
use Rattle.lrs_json.specs.declared.tree.Tree.{Tree, Object}
use Rattle.lrs_json.proofs.Views.{view-List, view-Object}
use Rattle.xapi_format.proofs.plural.alone.Goals as goal

pub returns : goal.returns
returns c =
    let one : List Tree = Object c.args.members ∷ [] in
    view-List c.push.new.self
    ∙ ap (λ (ts : List Tree). array (elements_of (map view ts))) (c.in_ok-push.ensures.ok ∙ ap (λ (ts : List Tree). ts ++ one) c.new-items.ensures)
    ∙ ap (λ (j : Json). array (element j no_elements)) (view-Object c.args.members)
