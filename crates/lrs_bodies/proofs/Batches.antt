-- The statements of a batch are told by what is seen of them, and each is such as reading gives.
use Rattle.std.proofs.Common.{◌≡◌, ◌≤◌, List, [], ◌∷◌, map, sym, subst, arith}
use Rattle.lrs_json.specs.Depth.{depth_of_elements}
use Rattle.lrs_json.specs.Fits.{FitElements, IsReadable}
use Rattle.lrs_json.specs.Json.{Json, null, boolean, number, string, array, object, Elements}
use Rattle.lrs_json.specs.View.{view, elements_of}
use Rattle.lrs_json.specs.declared.tree.Tree.{Tree}
use Rattle.lrs_json.specs.declared.limits.TheConstants.{DEPTH}
use Rattle.lrs_bodies.specs.Bodies.{AreReadable, batch_of}

readable_elements : (ts : List Tree) → FitElements (elements_of (map view ts)) → depth_of_elements (elements_of (map view ts)) ≤ DEPTH → AreReadable ts
readable_elements [] fit shallow = tt
readable_elements (t ∷ ts) fit shallow = ((fit.0, omega (arith, shallow)), readable_elements ts fit.1 (omega (arith, shallow)))

-- a batch is no deeper than its body
batch_fits : (j : Json) → IsReadable DEPTH j → FitElements (batch_of j) × (depth_of_elements (batch_of j) ≤ DEPTH)
batch_fits null h = ((h.0, tt), omega arith)
batch_fits (boolean b) h = ((h.0, tt), omega arith)
batch_fits (number s) h = ((h.0, tt), omega arith)
batch_fits (string s) h = ((h.0, tt), omega arith)
batch_fits (array js) h = (h.0, omega (arith, h.1))
batch_fits (object ms) h = ((h.0, tt), omega (arith, h.1))

pub readable_batch : (j : Json) (ts : List Tree) → IsReadable DEPTH j → elements_of (map view ts) ≡ batch_of j → AreReadable ts
readable_batch j ts h e =
    let fits = batch_fits j h in
    readable_elements ts (subst FitElements (sym e) fits.0) (subst (λ (js : Elements). depth_of_elements js ≤ DEPTH) (sym e) fits.1)
