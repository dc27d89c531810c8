-- Activities (xAPI 1.0.3, part two, section 2.4.4.1), and the ids under which the store knows the nodes of courses.
use Rattle.std.specs.Prelude.{ℕ, List, [], ◌∷◌, ◌++◌, codes}
use Rattle.std.specs.Fmt.{decimal}
use Rattle.lrs_json.specs.Json.{Json, object, string}
use Rattle.lrs_json.specs.View.{members_of}

-- BASE activities/COURSE/NODE: courses and the nodes of each are counted from 0, and the course itself is its node 0
abbrev pub activity_text : List ℕ → ℕ → ℕ → List ℕ
activity_text base course node =
    base ++ codes "activities/" ++ decimal course ++ codes "/" ++ decimal node

-- {"objectType":"Activity","id":ID}
abbrev pub activity_json : List ℕ → Json
activity_json id =
    object (members_of ((codes "objectType", string (codes "Activity")) ∷ (codes "id", string id) ∷ []))
