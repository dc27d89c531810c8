-- What is said of nodes, one after the other.
use Rattle.std.proofs.Common.{◌≡◌, ℕ, List, [], ◌∷◌, ◌++◌, map, filter_map, option_map, Option, None, Some, refl, sym, ap, ◌∙◌, append_assoc, append-nil}
use Rattle.std.proofs.lemmas.List.{map-append}
use Rattle.std.specs.List.{cons_option}
use Rattle.cmi5_course.specs.Courses.{node_at}
use Rattle.cmi5_course.specs.declared.course.Node.{Node}
use Rattle.lrs_history.specs.Enrolments.{Enrolled}
use Rattle.lrs_history.specs.Made.{satisfied_at, satisfied_json}
use Rattle.lrs_json.specs.Json.{Json}
use Rattle.lrs_json.specs.View.{view}
use Rattle.lrs_made.proofs.Supplied.{value_of}
use Rattle.xapi_statement.specs.declared.statement.Statement.{Statement}

-- ---- lists of what there is

with_option : {A : Type 0} (o : Option A) (xs : List A) → cons_option o [] ++ xs ≡ cons_option o xs
with_option None xs = refl
with_option (Some x) xs = refl

-- what there is of those so far, and what there is of the rest
pub said_next : {A B : Type 0} (f : A → Option B) (before after all : List B) (left rest : List A) (x : A) → left ≡ x ∷ rest → after ≡ before ++ filter_map f (x ∷ [])
    → before ++ filter_map f left ≡ all → after ++ filter_map f rest ≡ all
said_next f before after all left rest x at pushed so_far =
    ap (λ xs. xs ++ filter_map f rest) pushed
    ∙ (append_assoc before (filter_map f (x ∷ [])) (filter_map f rest)
    ∙ (ap (λ xs. before ++ xs) (with_option (f x) (filter_map f rest))
    ∙ (ap (λ xs. before ++ filter_map f xs) (sym at) ∙ so_far)))

pub said_end : {A B : Type 0} (f : A → Option B) (before all : List B) (left : List A) → left ≡ [] → before ++ filter_map f left ≡ all → before ≡ all
said_end f before all left none so_far = sym (append-nil before) ∙ (ap (λ xs. before ++ filter_map f xs) (sym none) ∙ so_far)

-- ---- one node

-- a statement more that says this
pub said_more : (before after : List Statement) (x : Statement) (j : Json) → after ≡ before ++ x ∷ [] → view x.tree ≡ j → map value_of after ≡ map value_of before ++ j ∷ []
said_more before after x j pushed says =
    ap (λ (xs : List Statement). map value_of xs) pushed
    ∙ (map-append value_of before (x ∷ []) ∙ ap (λ (k : Json). map value_of before ++ k ∷ []) says)

pub node_said : (e : Enrolled) (session : List ℕ) (index : ℕ) (node : Node) → Some node ≡ node_at index e.edition.course
    → satisfied_json e session index node ∷ [] ≡ filter_map (satisfied_at e session) (index ∷ [])
node_said e session index node at = ap (λ (o : Option Node). cons_option (option_map (satisfied_json e session index) o) []) at

pub no_node : (e : Enrolled) (session : List ℕ) (index : ℕ) → None ≡ node_at index e.edition.course → [] ≡ filter_map (satisfied_at e session) (index ∷ [])
no_node e session index at = ap (λ (o : Option Node). cons_option (option_map (satisfied_json e session index) o) []) at
