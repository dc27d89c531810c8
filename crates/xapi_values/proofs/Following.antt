-- Members after members.
use Rattle.std.proofs.Common.{◌≡◌, ℕ, List, [], ◌∷◌, ◌++◌, refl, ap}
use Rattle.lrs_json.specs.Json.{Json, Members, no_members, member}
use Rattle.lrs_json.specs.View.{members_of}
use Rattle.xapi_values.specs.Following.{followed_by}

pub followed_last : (xs : List (List ℕ × Json)) (name : List ℕ) (j : Json) (behind : Members) → followed_by (members_of (xs ++ (name, j) ∷ [])) behind ≡ followed_by (members_of xs) (member name j behind)
followed_last [] name j behind = refl
followed_last (x ∷ xs) name j behind = ap (member x.0 x.1) (followed_last xs name j behind)

pub followed_none : (ms : Members) → followed_by ms no_members ≡ ms
followed_none no_members = refl
followed_none (member name j ms) = ap (member name j) (followed_none ms)
