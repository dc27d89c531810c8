-- The first of the members that are left.
use Rattle.std.proofs.Common.{◌≡◌, ℕ, ◌+◌, ◌<◌, get_or, length, List, map, drop, ap, ◌∙◌, rules}
use Rattle.lrs_json.specs.Json.{Json, Members, member}
use Rattle.lrs_json.specs.View.{view, member_view, members_of}
use Rattle.lrs_json.specs.declared.tree.Member.{Member}
use Rattle.lrs_json.specs.declared.tree.Tree.{the_lemmas}
use Rattle.lrs_json.proofs.Lists.{drop_item}

pub first_left : (ms : List Member) (i : ℕ) (m : Member) → i < length ms → m ≡ get_or ms i m → members_of (map member_view (drop i ms)) ≡ member m.name (view m.value) (members_of (map member_view (drop (i + 1) ms)))
first_left ms i m within at =
    let rest : Members = members_of (map member_view (drop (i + 1) ms)) in
    let name : (member_view m).0 ≡ m.name = search (rules, the_lemmas) in
    let value : (member_view m).1 ≡ view m.value = search (rules, the_lemmas) in
    ap (λ (us : List Member). members_of (map member_view us)) (drop_item ms i m within at)
    ∙ (ap (λ (k : List ℕ). member k (member_view m).1 rest) name ∙ ap (λ (j : Json). member m.name j rest) value)
