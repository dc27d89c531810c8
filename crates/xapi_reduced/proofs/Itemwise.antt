-- Arrays, item by item.
use Rattle.std.proofs.Common.{◌≡◌, List, [], ◌∷◌, map, refl, ap, sym, ◌∙◌}
use Rattle.lrs_json.specs.Json.{Json, array, element}
use Rattle.lrs_json.specs.View.{elements_of, view}
use Rattle.lrs_json.specs.declared.tree.Tree.{Tree, List as Many}
use Rattle.lrs_json.proofs.Views.{view-List}
use Rattle.xapi_reduced.specs.Reduced.{each_item, with_each_item}

pub itemwise : (change : Json → Json) (ts : List Tree) → elements_of (map (λ t. change (view t)) ts) ≡ each_item change (elements_of (map view ts))
itemwise change [] = refl
itemwise change (t ∷ ts) = ap (element (change (view t))) (itemwise change ts)

-- an array, of whose items others were made
pub made_items : (change : Json → Json) (built items : List Tree) → map view built ≡ map (λ t. change (view t)) items → view (Many built) ≡ with_each_item change (view (Many items))
made_items change built items e = view-List built ∙ ap (λ js. array (elements_of js)) e ∙ ap array (itemwise change items) ∙ ap (with_each_item change) (sym (view-List items))
