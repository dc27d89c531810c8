-- The text of the nodes, one after the other.
use Rattle.std.proofs.Common.{◌≡◌, ◌⊎◌, ◌∙◌, ℕ, Bool, true, List, [], ◌∷◌, ◌++◌, length, refl, sym, ap, subst, arith, append_assoc, inl, inr}
use Rattle.cmi5_course.specs.declared.course.Node.{Node}
use Rattle.lrs_json.specs.Written.{comma_if}
use Rattle.lrs_replies.specs.Standings.{node_text, nodes_of, nodes_text, seen_node}

-- one node more is written
pub next_node : (so_far after : List ℕ) (later : Bool) (node : Node) (satisfied : Bool) (nodes left : List Node) (verdicts behind : List Bool) (whole : List ℕ)
    → nodes ≡ node ∷ left → verdicts ≡ satisfied ∷ behind → after ≡ so_far ++ comma_if later ++ node_text (seen_node (node, satisfied))
    → so_far ++ nodes_text later (nodes_of nodes verdicts) ≡ whole → after ++ nodes_text true (nodes_of left behind) ≡ whole
next_node so_far after later node satisfied nodes left verdicts behind whole first second put told =
    let text : List ℕ = node_text (seen_node (node, satisfied)) in
    let rest : List ℕ = nodes_text true (nodes_of left behind) in
    let here : so_far ++ (comma_if later ++ text ++ rest) ≡ whole =
    subst (λ (vs : List Bool). so_far ++ nodes_text later (nodes_of (node ∷ left) vs) ≡ whole) second
    (subst (λ (ns : List Node). so_far ++ nodes_text later (nodes_of ns verdicts) ≡ whole) first told) in
    ap (λ (xs : List ℕ). xs ++ rest) put ∙ append_assoc (so_far ++ comma_if later) text rest ∙ append_assoc so_far (comma_if later) (text ++ rest)
    ∙ ap (λ (xs : List ℕ). so_far ++ xs) (sym (append_assoc (comma_if later) text rest)) ∙ here

no_nodes : (nodes : List Node) (verdicts : List Bool) → length nodes ≡ 0 → nodes_of nodes verdicts ≡ []
no_nodes [] verdicts e = refl
no_nodes (node ∷ nodes) verdicts e = absurd (omega arith)

no_verdicts : (nodes : List Node) (verdicts : List Bool) → length verdicts ≡ 0 → nodes_of nodes verdicts ≡ []
no_verdicts [] verdicts e = refl
no_verdicts (node ∷ nodes) [] e = refl
no_verdicts (node ∷ nodes) (satisfied ∷ verdicts) e = absurd (omega arith)

none_left : {U V : Type 0} {P : U → Type 0} {Q : V → Type 0} (nodes : List Node) (verdicts : List Bool)
    → ((u : U) × ((length nodes ≡ 0) × P u)) ⊎ ((v : V) × ((length verdicts ≡ 0) × Q v)) → nodes_of nodes verdicts ≡ []
none_left nodes verdicts (inl e) = no_nodes nodes verdicts e.1.0
none_left nodes verdicts (inr e) = no_verdicts nodes verdicts e.1.0

-- where there is none left, the bracket ends them
pub last_node : {U V : Type 0} {P : U → Type 0} {Q : V → Type 0} (so_far after : List ℕ) (later : Bool) (nodes : List Node) (verdicts : List Bool) (whole : List ℕ)
    → ((u : U) × ((length nodes ≡ 0) × P u)) ⊎ ((v : V) × ((length verdicts ≡ 0) × Q v)) → after ≡ so_far ++ 93 ∷ []
    → so_far ++ nodes_text later (nodes_of nodes verdicts) ≡ whole → after ≡ whole
last_node so_far after later nodes verdicts whole ends put told =
    put ∙ ap (λ ns. so_far ++ nodes_text later ns) (sym (none_left nodes verdicts ends)) ∙ told

-- the parts of a node are its text
pub seven_parts : (o a b c d e f g : List ℕ) → o ++ a ++ b ++ c ++ d ++ e ++ f ++ g ≡ o ++ (a ++ b ++ c ++ d ++ e ++ f ++ g)
seven_parts o a b c d e f g = simp append_assoc refl
