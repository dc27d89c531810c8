-- What a write is kept as: its name and its fields.
use Rattle.std.specs.Prelude.{ℕ, List, [], ◌∷◌, ◌++◌, codes, Option, Some, None, if◌then◌else◌}
use Rattle.std.specs.Str.{bytes_eq}
use Rattle.cmi5_course.specs.Reasons.{reason_text}
use Rattle.cmi5_course.specs.Words.{mode_text}
use Rattle.lrs_fields.specs.Values.{Value, text_value, id_value, tree_value, trees_value, iri_value, agent_value}
use Rattle.lrs_fields.specs.Values.{bytes_value, actor_value, number_value, optional_field}
use Rattle.lrs_json.specs.declared.tree.Tree.{Tree}
use Rattle.lrs_record.specs.declared.entry.Area.{Area}
use Rattle.lrs_record.specs.declared.entry.Area.TheVariants.{Free, Store, Desk}
use Rattle.lrs_record.specs.declared.entry.How.{How}
use Rattle.lrs_record.specs.declared.entry.How.TheVariants as how
use Rattle.lrs_record.specs.declared.entry.Write.{Write}
use Rattle.lrs_record.specs.declared.entry.Write.TheVariants.{Found, Provider, Put, Post, State, Drop}
use Rattle.lrs_record.specs.declared.entry.Write.TheVariants.{Course, Enrol, Launch, Fetch, Waive, Abandon, Sweep}

-- ---- the words of writes

abbrev pub how_text : How → List ℕ
how_text how.Put = codes "put"
how_text how.Post = codes "post"

abbrev pub how_of : List ℕ → Option How
how_of text = if bytes_eq text (codes "put") then Some how.Put
    else (if bytes_eq text (codes "post") then Some how.Post else None)

-- ---- the writes

-- where a write goes, by what it asks of its caller
abbrev pub write_area : Write → Area
write_area (Found admin base) = Desk
write_area (Provider name) = Desk
write_area (Put id statement) = Store
write_area (Post statements) = Store
write_area (State h key media bytes) = Store
write_area (Drop activity agent registration state) = Store
write_area (Course tree) = Desk
write_area (Enrol course actor edition) = Desk
write_area (Launch registration unit mode return_url) = Desk
write_area (Fetch key) = Free
write_area (Waive registration unit reason) = Desk
write_area (Abandon session) = Desk
write_area (Sweep idle) = Desk

-- the statements that come with a write
abbrev pub trees_of : Write → List Tree
trees_of (Put id statement) = statement ∷ []
trees_of (Post statements) = statements
trees_of other = []

-- the name under which a write is kept
abbrev pub write_name : Write → List ℕ
write_name (Found admin base) = codes "found"
write_name (Provider name) = codes "provider"
write_name (Put id statement) = codes "put"
write_name (Post statements) = codes "post"
write_name (State h key media bytes) = codes "state"
write_name (Drop activity agent registration state) = codes "drop"
write_name (Course tree) = codes "course"
write_name (Enrol course actor edition) = codes "enrol"
write_name (Launch registration unit mode return_url) = codes "launch"
write_name (Fetch key) = codes "fetch"
write_name (Waive registration unit reason) = codes "waive"
write_name (Abandon session) = codes "abandon"
write_name (Sweep idle) = codes "sweep"

abbrev pub write_fields : Write → List (List ℕ × Value)
write_fields (Found admin base) = (codes "admin", text_value admin) ∷ (codes "base", text_value base) ∷ []
write_fields (Provider name) = (codes "name", text_value name) ∷ []
write_fields (Put id statement) = (codes "id", id_value id) ∷ (codes "statement", tree_value statement) ∷ []
write_fields (Post statements) = (codes "statements", trees_value statements) ∷ []
write_fields (State h key media bytes) =
    (codes "how", text_value (how_text h)) ∷ (codes "activity", iri_value key.activity)
    ∷ (codes "agent", agent_value key.agent)
    ∷ (optional_field (codes "registration") id_value key.registration
    ++ (codes "state", text_value key.state) ∷ (codes "type", text_value media)
    ∷ (codes "bytes", bytes_value bytes) ∷ [])
write_fields (Drop activity agent registration state) =
    (codes "activity", iri_value activity) ∷ (codes "agent", agent_value agent)
    ∷ (optional_field (codes "registration") id_value registration ++ optional_field (codes "state") text_value state)
write_fields (Course tree) = (codes "tree", tree_value tree) ∷ []
write_fields (Enrol course actor edition) =
    (codes "course", iri_value course) ∷ (codes "actor", actor_value actor)
    ∷ optional_field (codes "edition") number_value edition
write_fields (Launch registration unit mode return_url) =
    (codes "registration", id_value registration) ∷ (codes "unit", iri_value unit)
    ∷ (codes "mode", text_value (mode_text mode)) ∷ optional_field (codes "returnURL") iri_value return_url
write_fields (Fetch key) = (codes "key", text_value key) ∷ []
write_fields (Waive registration unit reason) =
    (codes "registration", id_value registration) ∷ (codes "unit", iri_value unit)
    ∷ (codes "reason", text_value (reason_text reason)) ∷ []
write_fields (Abandon session) = (codes "session", id_value session) ∷ []
write_fields (Sweep idle) = (codes "idle", number_value idle) ∷ []
