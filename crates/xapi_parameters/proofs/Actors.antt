-- What the text of an agent tells.
use Rattle.std.proofs.Common.{◌≡◌, ℕ, List, Option, Some, None, Result, Ok, Err, IfOk, MatchBool, MatchOption, Bool, is_some, option_map, sym, ap, ◌∙◌, subst}
use Rattle.std.proofs.lemmas.Option.{none-some, same_Some}
use Rattle.lrs_json.specs.Json.{Json}
use Rattle.lrs_json_reader.specs.Refusals.{Spells}
use Rattle.lrs_json_spelled.proofs.Law.{finds_what_is_spelled}
use Rattle.lrs_json_spelled.specs.Spelled.{value_in}
use Rattle.lrs_json.specs.View.{view}
use Rattle.lrs_json.specs.declared.tree.Tree.{Tree}
use Rattle.lrs_json.specs.declared.memory.Memory.{Memory}
use Rattle.lrs_json.specs.declared.limits.TheConstants.{DEPTH}
use Rattle.lrs_agents.specs.Agents.{agent_or_group_faults}
use Rattle.lrs_agents.specs.Identifiers.{identifier_of}
use Rattle.lrs_names.specs.Rules.{least}
use Rattle.lrs_agents.specs.declared.identifiers.Ifi.{Ifi}
use Rattle.xapi_parameters.specs.Values.{IsActor, IsActorOf}

-- it is the one value that the text spells
abbrev pub IsAlone : List ℕ → Json → Type 0
IsAlone text j = (k : Json) → Spells DEPTH text k → j ≡ k

-- what is found where the value of the bytes is sought
abbrev pub IsFound : List ℕ → Option Tree → Type 0
IsFound bytes found = option_map view found ≡ value_in DEPTH bytes

pub spelled_at : (bytes : List ℕ) (found : Option Tree) (tree : Tree) → found ≡ Some tree → IsFound bytes found → Spells DEPTH bytes (view tree) × IsAlone bytes (view tree)
spelled_at bytes found tree is sought =
    let value : value_in DEPTH bytes ≡ Some (view tree) = sym sought ∙ ap (λ (o : Option Tree). option_map view o) is in
    ((finds_what_is_spelled DEPTH bytes (view tree)).0 value, λ k spells. same_Some (view tree) k (sym value ∙ (finds_what_is_spelled DEPTH bytes k).1 spells))

pub unspelled_at : (bytes : List ℕ) (found : Option Tree) → found ≡ None → IsFound bytes found → (j : Json) → Spells DEPTH bytes j → ⊥
unspelled_at bytes found is sought j spells =
    let value : value_in DEPTH bytes ≡ None = sym sought ∙ ap (λ (o : Option Tree). option_map view o) is in
    none-some j (sym value ∙ (finds_what_is_spelled DEPTH bytes j).1 spells)

pub no_actor : (text : List ℕ) → ((j : Json) → Spells DEPTH text j → ⊥) → ¬ (IsActor text)
no_actor text none actor = none actor.1.0 actor.1.1

pub broken_actor : (text : List ℕ) (j : Json) (rule : ℕ) → IsAlone text j → Some rule ≡ least (agent_or_group_faults 6 j) → ¬ (IsActor text)
broken_actor text j rule alone broken actor =
    let same = alone actor.1.0 actor.1.1 in
    let none : Some rule ≡ None = broken ∙ ap (λ k. least (agent_or_group_faults 6 k)) same ∙ actor.1.2 in absurd (cc none)

unidentified : (text : List ℕ) (j : Json) → IsAlone text j → identifier_of j ≡ None → ¬ (IsActor text)
unidentified text j alone none actor =
    let same = alone actor.1.0 actor.1.1 in
    let both : ◌≡◌ {A = Option Ifi} None (Some actor.0) = sym none ∙ ap identifier_of same ∙ actor.1.3 in absurd (cc both)

pub identified : (text : List ℕ) (j : Json) (result : Result (Option Ifi) Memory) → Spells DEPTH text j → IsAlone text j → None ≡ least (agent_or_group_faults 6 j)
    → IfOk result (λ ifi. ifi ≡ identifier_of j) → IfOk result (λ found. MatchOption found (¬ (IsActor text)) (IsActorOf text))
identified text j (Ok None) spells alone unbroken is = unidentified text j alone (sym is)
identified text j (Ok (Some ifi)) spells alone unbroken is = (j, spells, sym unbroken, sym is)
identified text j (Err e) spells alone unbroken is = tt

passes_so : (text : List ℕ) (found : Option Ifi) → MatchOption found (¬ (IsActor text)) (IsActorOf text) → MatchBool (is_some found) (IsActor text) (¬ (IsActor text))
passes_so text None none = none
passes_so text (Some ifi) actor = (ifi, actor)

-- where a text is given
pub passes_as : (given : Option (List ℕ)) (text : List ℕ) (found : Option Ifi) (met : Bool) → Some text ≡ given → met ≡ is_some found
    → MatchOption found (¬ (IsActor text)) (IsActorOf text) → MatchBool met (MatchOption given (Unit {0}) IsActor) (¬ (MatchOption given (Unit {0}) IsActor))
passes_as given text found met is same judged =
    let P : Bool → Type 0 = λ m. MatchBool m (IsActor text) (¬ (IsActor text)) in
    let Q : Option (List ℕ) → Type 0 = λ g. MatchBool met (MatchOption g (Unit {0}) IsActor) (¬ (MatchOption g (Unit {0}) IsActor)) in
    subst Q is (subst P (sym same) (passes_so text found judged))

-- the bytes are the text's
pub at_text : (bytes text : List ℕ) → bytes ≡ text → ¬ (IsActor bytes) → ¬ (IsActor text)
at_text bytes text lent none = let P : List ℕ → Type 0 = λ b. ¬ (IsActor b) in subst P lent none

pub identified_at : (bytes text : List ℕ) (result : Result (Option Ifi) Memory) → bytes ≡ text
    → IfOk result (λ found. MatchOption found (¬ (IsActor bytes)) (IsActorOf bytes)) → IfOk result (λ found. MatchOption found (¬ (IsActor text)) (IsActorOf text))
identified_at bytes text result lent judged =
    let P : List ℕ → Type 0 = λ b. IfOk result (λ found. MatchOption found (¬ (IsActor b)) (IsActorOf b)) in subst P lent judged
