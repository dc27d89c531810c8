use Rattle.std.proofs.Common.{◌≡◌, Some, length, refl, ap, ◌∙◌, rules}
use Rattle.std.proofs.lemmas.Option.{slice_get_read}
use Rattle.lrs_json.specs.Json.{Json}
use Rattle.lrs_json.specs.View.{view, member_view}
use Rattle.lrs_json.specs.declared.tree.Tree.{the_lemmas}
use Rattle.lrs_json_equal.proofs.Indices.{found_there, named_there}
use Rattle.lrs_json_equal.proofs.equivalence.find_from.Goals as goal

pub returns-then-eq-clause-found : goal.returns-then-eq-clause-found
returns-then-eq-clause-found c =
    let m = c.in-Some.member.now in
    let at = slice_get_read c.args.members.now (length c.args.members.now) c.args.at m refl (search rules) (search rules) in
    let name : (member_view m).0 ≡ c.args.name.now = search (rules, the_lemmas) in
    named_there c.args.members.now c.args.at m c.args.name.now at name

pub returns-then-eq-clause-first : goal.returns-then-eq-clause-first
returns-then-eq-clause-first c =
    let m = c.in-Some.member.now in
    let at = slice_get_read c.args.members.now (length c.args.members.now) c.args.at m refl (search rules) (search rules) in
    let name : (member_view m).0 ≡ c.args.name.now = search (rules, the_lemmas) in
    let value : view m.value ≡ (member_view m).1 = search (rules, the_lemmas) in
    λ names f. ap (λ (j : Json). Some j) value ∙ found_there c.args.members.now c.args.at m c.args.name.now names at name f
