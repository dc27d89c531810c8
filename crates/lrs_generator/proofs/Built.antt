-- What the members of a statement come to, one by one, and what is said of nothing where memory ran out.
use Rattle.std.proofs.Common.{◌≡◌, ℕ, List, [], ◌∷◌, ◌++◌, Result, Ok, Err, IsErrAnd, OnOk, codes, refl}
use Rattle.lrs_json.specs.Json.{Json, object, string}
use Rattle.lrs_json.specs.View.{members_of}
use Rattle.lrs_names.specs.Ids.{id_text}
use Rattle.lrs_generator.specs.Generated.{actor_json, id_at, id_json, object_json, statement_of, verb_iri}

pub statement_built : (seed i x : ℕ) {none one two three all : List (List ℕ × Json)} {id : List ℕ} {actor verb subject : Json} → none ≡ []
    → one ≡ none ++ (codes "id", string (id_text id)) ∷ [] → id ≡ id_at seed i
    → two ≡ one ++ (codes "actor", actor) ∷ [] → actor ≡ actor_json x
    → three ≡ two ++ (codes "verb", verb) ∷ [] → verb ≡ id_json (verb_iri i x)
    → all ≡ three ++ (codes "object", subject) ∷ [] → subject ≡ object_json seed i x
    → object (members_of all) ≡ statement_of seed i x
statement_built seed i x empty first at second who third what last which = rw (last, third, second, first, empty, at, who, what, which) refl

pub refused : {T E : Type 0} (Q : E → Type 0) (r : Result T E) (P : Type 0) → IsErrAnd r Q → OnOk r P
refused Q (Ok x) P h = absurd h
refused Q (Err y) P h = tt
