-- What follows for the items of a list and for the members of an agent from the rules that they don't break.
use Rattle.std.proofs.Common.{◌≡◌, ℕ, zero, suc, ◌+◌, ◌<◌, List, [], ◌∷◌, ◌++◌, length, map, drop, slice_index_or, Bool, true, false, Option, Some, None, option_map, option_and_then, is_some, codes, append_assoc, append-nil, ◌≤◌, ◌⊎◌, inl, inr, ◌==◌, ◌&&◌, refl, add-one, sym, ap, ◌∙◌, subst, arith}
use Rattle.lrs_json.specs.Json.{Json, null, boolean, number, string, array, object, Elements, element}
use Rattle.lrs_json.specs.Find.{find}
use Rattle.lrs_json.specs.View.{view, elements_of}
use Rattle.lrs_json.specs.declared.tree.Tree.{Tree}
use Rattle.lrs_json.specs.Parts.{text_in}
use Rattle.std.proofs.lemmas.Bool.{false≢true}
use Rattle.std.proofs.lemmas.Grind.{common_steps}
use Rattle.std.specs.Cmp.{first_so, second_so}
use Rattle.std.specs.Option.{option_map_or}
use Rattle.lrs_agents.specs.Agents.{mailbox_faults, sha1_faults, openid_faults, account_faults, is_mailbox, is_sha1, is_account, identifier_count, identifier_faults, is_agent, agent_faults, faults_of_agents, faults_of_members, is_group, group_faults}
use Rattle.lrs_agents.specs.Identifiers.{or_else, account_of, identifier_of}
use Rattle.lrs_names.specs.Iris.{is_iri, iri_faults}
use Rattle.lrs_names.specs.Members.{is_string_that, is_string, has_member, has_member_that, faults_of_member, text_under, has_only}
use Rattle.lrs_agents.specs.Readings.{IsAgentOf, AreAgentsOf}
use Rattle.lrs_agents.specs.declared.agents.Agent.{Agent}
use Rattle.lrs_agents.specs.declared.identifiers.Ifi.{Ifi}
use Rattle.lrs_agents.specs.declared.identifiers.Ifi.TheVariants.{Mbox, MboxSha1, OpenId, Account}
use Rattle.lrs_names.specs.Rules.{unless, lesser, least}
use Rattle.lrs_names.proofs.RuleLemmas.{least-append, lesser_assoc}

next : {X : Type 0} (seen : X → Json) (xs : List X) (i : ℕ) (x : X) → i < length xs → x ≡ slice_index_or xs i x → elements_of (map seen (drop i xs)) ≡ element (seen x) (elements_of (map seen (drop (suc i) xs)))
next seen [] i x within is = absurd (omega arith)
next seen (y ∷ ys) zero x within is = ap (λ z. element (seen z) (elements_of (map seen ys))) (sym is)
next seen (y ∷ ys) (suc i) x within is = let inside : i < length ys = omega arith in next seen ys i x inside is

-- the items from i on begin with the one at i
pub next_item : {X : Type 0} (seen : X → Json) (xs : List X) (i : ℕ) (x : X) → i < length xs → x ≡ slice_index_or xs i x → elements_of (map seen (drop i xs)) ≡ element (seen x) (elements_of (map seen (drop (i + 1) xs)))
next_item seen xs i x within is = rw add-one (next seen xs i x within is)

pub more_faults : (whole found own new : Option ℕ) (items : List Tree) (i : ℕ) (item : Tree) → i < length items → item ≡ slice_index_or items i item
    → own ≡ least (agent_faults (view item)) → new ≡ lesser found own
    → whole ≡ lesser found (least (faults_of_agents (elements_of (map view (drop i items)))))
    → whole ≡ lesser new (least (faults_of_agents (elements_of (map view (drop (i + 1) items)))))
more_faults whole found own new items i item within is judged joined so_far =
    let rest : Elements = elements_of (map view (drop (i + 1) items)) in
    let split : least (faults_of_agents (elements_of (map view (drop i items)))) ≡ lesser (least (agent_faults (view item))) (least (faults_of_agents rest)) =
    ap (λ js. least (faults_of_agents js)) (next_item view items i item within is) ∙ least-append (agent_faults (view item)) (faults_of_agents rest) in
    so_far ∙ ap (lesser found) split ∙ sym (lesser_assoc found (least (agent_faults (view item))) (least (faults_of_agents rest)))
    ∙ ap (λ o. lesser (lesser found o) (least (faults_of_agents rest))) (sym judged) ∙ ap (λ o. lesser o (least (faults_of_agents rest))) (sym joined)

-- ---- what breaks no rule

left_none : (a b : Option ℕ) → lesser a b ≡ None → a ≡ None
left_none None b e = refl
left_none (Some r) None e = cc e
left_none (Some r) (Some s) e = cc e

right_none : (a b : Option ℕ) → lesser a b ≡ None → b ≡ None
right_none None b e = e
right_none (Some r) None e = refl
right_none (Some r) (Some s) e = cc e

pub none_left : (xs ys : List ℕ) → least (xs ++ ys) ≡ None → least xs ≡ None
none_left xs ys e = left_none (least xs) (least ys) (sym (least-append xs ys) ∙ e)

pub none_right : (xs ys : List ℕ) → least (xs ++ ys) ≡ None → least ys ≡ None
none_right xs ys e = right_none (least xs) (least ys) (sym (least-append xs ys) ∙ e)

pub is_met : (met : Bool) (rule : ℕ) → least (unless met rule) ≡ None → met ≡ true
is_met true rule e = refl
is_met false rule e = cc e

-- a member that must be a string is missing where it has no text
no_text : (test : List ℕ → Bool) (rule : ℕ) (o : Option Json) → least (option_map_or (λ v. unless (is_string_that test v) rule) o []) ≡ None → option_and_then text_in o ≡ None → is_some o ≡ false
no_text test rule None none without = refl
no_text test rule (Some null) none without = cc none
no_text test rule (Some (boolean b)) none without = cc none
no_text test rule (Some (number s)) none without = cc none
no_text test rule (Some (string s)) none without = cc without
no_text test rule (Some (array js)) none without = cc none
no_text test rule (Some (object ms)) none without = cc none

no_openid : (o : Option Json) → least (option_map_or openid_faults o []) ≡ None → option_and_then text_in o ≡ None → is_some o ≡ false
no_openid None none without = refl
no_openid (Some null) none without = cc none
no_openid (Some (boolean b)) none without = cc none
no_openid (Some (number s)) none without = cc none
no_openid (Some (string s)) none without = cc without
no_openid (Some (array js)) none without = cc none
no_openid (Some (object ms)) none without = cc none

-- a member that is a string has a text
some_text : (o : Option Json) → option_map_or is_string o false ≡ true → option_and_then text_in o ≡ None → ⊥
some_text None is without = false≢true is
some_text (Some null) is without = false≢true is
some_text (Some (boolean b)) is without = false≢true is
some_text (Some (number s)) is without = false≢true is
some_text (Some (string s)) is without = cc without
some_text (Some (array js)) is without = false≢true is
some_text (Some (object ms)) is without = false≢true is

some_iri : (o : Option Json) → is_some o ≡ true → least (option_map_or iri_faults o []) ≡ None → option_and_then text_in o ≡ None → ⊥
some_iri None stands none without = false≢true stands
some_iri (Some v) stands none without = false≢true (sym (no_text is_iri 6 (Some v) none without) ∙ stands)

both_none : (home name : Option (List ℕ)) → option_and_then (λ h. option_map (λ n. Account h n) name) home ≡ None → (home ≡ None) ⊎ (name ≡ None)
both_none None name e = inl refl
both_none (Some h) None e = inr refl
both_none (Some h) (Some n) e = cc e

-- an account that breaks no rule has both texts
no_account : (o : Option Json) → least (option_map_or account_faults o []) ≡ None → option_and_then account_of o ≡ None → is_some o ≡ false
no_account None none without = refl
no_account (Some j) none without =
    let shape : is_account j ≡ true = is_met (is_account j) 10 (none_left (unless (is_account j) 10) (faults_of_member (codes "homePage") iri_faults j) none) in
    let page : least (faults_of_member (codes "homePage") iri_faults j) ≡ None = none_right (unless (is_account j) 10) (faults_of_member (codes "homePage") iri_faults j) none in
    let name_is : has_member_that (codes "name") is_string j ≡ true = second_so (has_only (codes "homePage" ∷ codes "name" ∷ []) j && has_member (codes "homePage") j) _ shape in
    let home_is : has_member (codes "homePage") j ≡ true = second_so (has_only (codes "homePage" ∷ codes "name" ∷ []) j) _ (first_so _ (has_member_that (codes "name") is_string j) shape) in
    elim (both_none (text_under (codes "homePage") j) (text_under (codes "name") j) without) [
      | inl none_home ↦ absurd (some_iri (find (codes "homePage") j) home_is page none_home)
      | inr none_name ↦ absurd (some_text (find (codes "name") j) name_is none_name)
    ]

chosen_none : (a b : Option Ifi) → or_else a b ≡ None → (a ≡ None) × (b ≡ None)
chosen_none None b e = (refl, e)
chosen_none (Some i) b e = cc e

mapped_none : (f : List ℕ → Ifi) (o : Option (List ℕ)) → option_map f o ≡ None → o ≡ None
mapped_none f None e = refl
mapped_none f (Some x) e = cc e

no_count : (j : Json) → has_member (codes "mbox") j ≡ false → has_member (codes "mbox_sha1sum") j ≡ false → has_member (codes "openid") j ≡ false → has_member (codes "account") j ≡ false → identifier_count j ≡ 0
no_count j a b c d = simp (a, b, c, d) (omega arith)

-- each of the four that identify is missing where it has no text, if it breaks no rule
pub record NoIdentifier (j : Json) : Type 0 where
  pub mbox : has_member (codes "mbox") j ≡ false
  pub mbox_sha1sum : has_member (codes "mbox_sha1sum") j ≡ false
  pub openid : has_member (codes "openid") j ≡ false
  pub account : has_member (codes "account") j ≡ false

no_identifier : (j : Json) → least (identifier_faults j) ≡ None → identifier_of j ≡ None → NoIdentifier j
unfolding identifier_of
no_identifier j none without =
    let mbox_faults : List ℕ = faults_of_member (codes "mbox") mailbox_faults j in
    let sha1sum_faults : List ℕ = faults_of_member (codes "mbox_sha1sum") sha1_faults j in
    let id_faults : List ℕ = faults_of_member (codes "openid") openid_faults j in
    let account_none : least (faults_of_member (codes "account") account_faults j) ≡ None = none_right (mbox_faults ++ sha1sum_faults ++ id_faults) _ none in
    let three : least (mbox_faults ++ sha1sum_faults ++ id_faults) ≡ None = none_left (mbox_faults ++ sha1sum_faults ++ id_faults) _ none in
    let two : least (mbox_faults ++ sha1sum_faults) ≡ None = none_left (mbox_faults ++ sha1sum_faults) id_faults three in
    let first = chosen_none _ _ without in
    let second = chosen_none _ _ first.1 in
    let third = chosen_none _ _ second.1 in
    record {
      mbox = no_text is_mailbox 7 (find (codes "mbox") j) (none_left mbox_faults sha1sum_faults two) (mapped_none Mbox _ first.0);
      mbox_sha1sum = no_text is_sha1 8 (find (codes "mbox_sha1sum") j) (none_right mbox_faults sha1sum_faults two) (mapped_none MboxSha1 _ second.0);
      openid = no_openid (find (codes "openid") j) (none_right (mbox_faults ++ sha1sum_faults) id_faults three) (mapped_none OpenId _ third.0);
      account = no_account (find (codes "account") j) account_none third.1;
    }

-- an agent that breaks no rule has an identifier
pub has_identifier : (j : Json) → least (agent_faults j) ≡ None → identifier_of j ≡ None → ⊥
unfolding agent_faults
has_identifier j none without =
    let shape : is_agent j ≡ true = is_met (is_agent j) 11 (none_left (unless (is_agent j) 11) (identifier_faults j) none) in
    let one : (identifier_count j == 1) ≡ true = second_so _ _ shape in
    let missing : NoIdentifier j = no_identifier j (none_right (unless (is_agent j) 11) (identifier_faults j) none) without in
    let zero_count : identifier_count j ≡ 0 = no_count j missing.mbox missing.mbox_sha1sum missing.openid missing.account in
    false≢true (rw zero_count at one)

-- ---- agents of a list

pub first_unbroken : (items : List Tree) (i : ℕ) (item : Tree) → i < length items → item ≡ slice_index_or items i item
    → least (faults_of_agents (elements_of (map view (drop i items)))) ≡ None
    → (least (agent_faults (view item)) ≡ None) × (least (faults_of_agents (elements_of (map view (drop (i + 1) items)))) ≡ None)
first_unbroken items i item within is none =
    let rest : Elements = elements_of (map view (drop (i + 1) items)) in
    let split : least (agent_faults (view item) ++ faults_of_agents rest) ≡ None = ap (λ js. least (faults_of_agents js)) (sym (next_item view items i item within is)) ∙ none in
    (none_left (agent_faults (view item)) (faults_of_agents rest) split, none_right (agent_faults (view item)) (faults_of_agents rest) split)

-- the agents of the items before i, to which those of the others are to be put
pub record AgentsSoFar (items : List Tree) (i : ℕ) (agents : List Agent) : Type 0 where
  pub unbroken : least (faults_of_agents (elements_of (map view (drop i items)))) ≡ None
  pub rest : (more : List Agent) → AreAgentsOf (elements_of (map view (drop i items))) more → AreAgentsOf (elements_of (map view items)) (agents ++ more)

pub no_agents : (items : List Tree) (agents : List Agent) → least (faults_of_agents (elements_of (map view items))) ≡ None → agents ≡ [] → AgentsSoFar items 0 agents
no_agents items agents none is = record { unbroken = none; rest = λ more are. rw is are }

pub one_more_agent : (items : List Tree) (i : ℕ) (item : Tree) (agents new : List Agent) (agent : Agent) → i < length items → item ≡ slice_index_or items i item
    → AgentsSoFar items i agents → IsAgentOf (view item) agent → new ≡ agents ++ agent ∷ [] → AgentsSoFar items (i + 1) new
one_more_agent items i item agents new agent within is so_far agent_is new_is = record {
  unbroken = (first_unbroken items i item within is so_far.unbroken).1;
  rest = λ more are.
      let all : AreAgentsOf (elements_of (map view items)) (agents ++ agent ∷ more) =
      so_far.rest (agent ∷ more) (subst (λ js. AreAgentsOf js (agent ∷ more)) (sym (next_item view items i item within is)) (agent_is, are)) in
      rw (new_is, append_assoc) all;
}

pub all_agents : (items : List Tree) (i : ℕ) (agents : List Agent) → length items ≤ i → AgentsSoFar items i agents → AreAgentsOf (elements_of (map view items)) agents
all_agents items i agents past so_far =
    let none : drop i items ≡ [] = grind (arith, common_steps) in
    let all : AreAgentsOf (elements_of (map view items)) (agents ++ []) = so_far.rest [] (subst (λ (xs : List Tree). AreAgentsOf (elements_of (map view xs)) []) (sym none) tt) in
    rw append-nil at all

pub members_unbroken : (j : Json) → least (group_faults j) ≡ None → least (faults_of_member (codes "member") faults_of_members j) ≡ None
unfolding group_faults
members_unbroken j none = none_right (unless (is_group j) 12 ++ identifier_faults j) (faults_of_member (codes "member") faults_of_members j) none
