-- The keys of parties and activities: of none, of two roles, and of the items of a list.
use Rattle.std.proofs.Common.{◌≡◌, ℕ, ◌+◌, ◌<◌, ◌≤◌, List, length, drop, map, slice_index_or, Bool, true, false, ◌&&◌, ◌||◌, Option, Some, None, codes, option_and_then, if◌then◌else◌, refl, sym, ap, ◌∙◌}
use Rattle.std.proofs.Math.Bool.{and-false, and-or_distrib_left, or-false}
use Rattle.std.proofs.lemmas.List.{at_drop_all}
use Rattle.std.specs.Option.{option_map_or}
use Rattle.std.specs.Str.{bytes_eq}
use Rattle.lrs_agents.proofs.AgentLemmas.{next_item}
use Rattle.lrs_agents.specs.Identifiers.{same_ifi}
use Rattle.lrs_agents.specs.declared.identifiers.Ifi.{Ifi}
use Rattle.lrs_json.specs.Find.{find}
use Rattle.lrs_json.specs.Json.{Json, null, boolean, number, string, array, object, Elements}
use Rattle.lrs_json.specs.View.{elements_of, view}
use Rattle.lrs_json.specs.declared.tree.Tree.{Tree}
use Rattle.lrs_json.specs.Parts.{items_of, text_in}
use Rattle.lrs_names.specs.Members.{is_word}
use Rattle.xapi_query.specs.XapiFormatParty.{any_identified, is_identified}
use Rattle.xapi_query.specs.XapiRulesRules.{is_about_activity}
use Rattle.xapi_query.specs.XapiStatementStatement.{activity_in, any_activity_of, context_holds, holds_activity, holds_at, is_activity_of}
use Rattle.xapi_statement_keys.specs.Adding.{Adds, activity_keys, agent_keys, named_keys, object_keys, same_parts}
use Rattle.xapi_statement_keys.specs.declared.key.Key.{Key}
use Rattle.xapi_statement_keys.specs.declared.key.Key.TheVariants as key
use Rattle.xapi_statement_keys.proofs.Growing.{adds_both}
use Rattle.xapi_statement_keys.proofs.SameKeys.{ifi_sym}

-- ---- parties

pub agents_none : (direct : Bool) (k : Key) → agent_keys direct (λ ifi. false) k ≡ false
agents_none direct (key.Agent ifi) = and-false direct
agents_none direct (key.RelatedAgent ifi) = refl
agents_none direct _ = refl

agents_or : (direct : Bool) (p q : Ifi → Bool) (k : Key) → agent_keys direct (λ ifi. p ifi || q ifi) k ≡ (agent_keys direct p k || agent_keys direct q k)
agents_or direct p q (key.Agent ifi) = and-or_distrib_left direct (p ifi) (q ifi)
agents_or direct p q (key.RelatedAgent ifi) = refl
agents_or direct p q _ = refl

pub more_agents : (direct : Bool) (p q : Ifi → Bool) (old mid new : List Key) → Adds old mid (agent_keys direct p) → Adds mid new (agent_keys direct q) → Adds old new (agent_keys direct (λ ifi. p ifi || q ifi))
more_agents direct p q old mid new first second =
    adds_both old mid new (agent_keys direct p) (agent_keys direct q) (agent_keys direct (λ ifi. p ifi || q ifi)) (agents_or direct p q) first second

-- the plain key, in a direct role, and the related one
pub agent_split : (direct : Bool) (ifi : Ifi) (k : Key) → agent_keys direct (λ other. same_ifi other ifi) k ≡ ((direct && same_parts (key.Agent ifi) k) || same_parts (key.RelatedAgent ifi) k)
agent_split direct ifi (key.Agent other) = ap (λ b. direct && b) (ifi_sym other ifi) ∙ sym (or-false (direct && same_ifi ifi other))
agent_split direct ifi (key.RelatedAgent other) = ifi_sym other ifi ∙ sym (ap (λ b. b || same_ifi ifi other) (and-false direct))
agent_split direct ifi _ = sym (ap (λ b. b || false) (and-false direct))

-- the keys of these members
abbrev pub member_keys : Bool → List Tree → Key → Bool
member_keys direct items k = agent_keys direct (λ ifi. any_identified ifi (elements_of (map view items))) k

pub next_member : (direct : Bool) (items : List Tree) (i : ℕ) (item : Tree) → i < length items → item ≡ slice_index_or items i item → (k : Key)
    → member_keys direct (drop i items) k ≡ (agent_keys direct (λ ifi. is_identified ifi (view item)) k || member_keys direct (drop (i + 1) items) k)
next_member direct items i item within is k =
    let rest : Elements = elements_of (map view (drop (i + 1) items)) in
    ap (λ (js : Elements). agent_keys direct (λ ifi. any_identified ifi js) k) (next_item view items i item within is)
    ∙ agents_or direct (λ ifi. is_identified ifi (view item)) (λ ifi. any_identified ifi rest) k

pub no_members : (direct : Bool) (items : List Tree) (i : ℕ) → length items ≤ i → (k : Key) → member_keys direct (drop i items) k ≡ false
no_members direct items i past k = at_drop_all (λ (ts : List Tree). member_keys direct ts k) items i past ∙ agents_none direct k

-- ---- activities

pub activities_none : (direct : Bool) (k : Key) → activity_keys direct (λ id. false) k ≡ false
activities_none direct (key.Activity id) = and-false direct
activities_none direct (key.RelatedActivity id) = refl
activities_none direct _ = refl

activities_or : (direct : Bool) (p q : List ℕ → Bool) (k : Key) → activity_keys direct (λ id. p id || q id) k ≡ (activity_keys direct p k || activity_keys direct q k)
activities_or direct p q (key.Activity id) = and-or_distrib_left direct (p id) (q id)
activities_or direct p q (key.RelatedActivity id) = refl
activities_or direct p q _ = refl

pub activities_same : (direct : Bool) (p q : List ℕ → Bool) → ((id : List ℕ) → p id ≡ q id) → (k : Key) → activity_keys direct p k ≡ activity_keys direct q k
activities_same direct p q same (key.Activity id) = ap (λ b. direct && b) (same id)
activities_same direct p q same (key.RelatedActivity id) = same id
activities_same direct p q same _ = refl

pub more_activities : (direct : Bool) (p q : List ℕ → Bool) (old mid new : List Key) → Adds old mid (activity_keys direct p) → Adds mid new (activity_keys direct q) → Adds old new (activity_keys direct (λ id. p id || q id))
more_activities direct p q old mid new first second =
    adds_both old mid new (activity_keys direct p) (activity_keys direct q) (activity_keys direct (λ id. p id || q id)) (activities_or direct p q) first second

pub activity_split : (direct : Bool) (id : List ℕ) (k : Key) → activity_keys direct (λ other. bytes_eq id other) k ≡ ((direct && same_parts (key.Activity id) k) || same_parts (key.RelatedActivity id) k)
activity_split direct id (key.Activity other) = sym (or-false (direct && bytes_eq id other))
activity_split direct id (key.RelatedActivity other) = sym (ap (λ b. b || bytes_eq id other) (and-false direct))
activity_split direct id _ = sym (ap (λ b. b || false) (and-false direct))

-- the id of the Activity that a value is, if it is one
abbrev pub is_id_in : Option (List ℕ) → List ℕ → Bool
is_id_in o id = option_map_or (λ own. bytes_eq own id) o false

word_in : (about : Bool) (o : Option Json) (id : List ℕ) → (about && option_map_or (is_word id) o false) ≡ is_id_in (if about then option_and_then text_in o else None) id
word_in false o id = refl
word_in true None id = refl
word_in true (Some null) id = refl
word_in true (Some (boolean b)) id = refl
word_in true (Some (number s)) id = refl
word_in true (Some (string s)) id = refl
word_in true (Some (array js)) id = refl
word_in true (Some (object ms)) id = refl

pub activity_word : (j : Json) (id : List ℕ) → is_activity_of id j ≡ is_id_in (activity_in j) id
unfolding is_activity_of
activity_word j id = word_in (is_about_activity j) (find (codes "id") j) id

-- what holds it is an array with an Activity of that id, or is one
pub held_is : (j : Json) (id : List ℕ) → holds_activity id j ≡ (any_activity_of id (items_of j) || is_activity_of id j)
unfolding is_activity_of
held_is null id = sym (and-false (is_about_activity null))
held_is (boolean b) id = sym (and-false (is_about_activity (boolean b)))
held_is (number s) id = sym (and-false (is_about_activity (number s)))
held_is (string s) id = sym (and-false (is_about_activity (string s)))
held_is (array js) id = sym (ap (λ b. any_activity_of id js || b) (and-false (is_about_activity (array js))) ∙ or-false (any_activity_of id js))
held_is (object ms) id = refl

-- the keys of these context activities
abbrev pub held_keys : List Tree → Key → Bool
held_keys items k = activity_keys false (λ id. any_activity_of id (elements_of (map view items))) k

pub next_held : (items : List Tree) (i : ℕ) (item : Tree) → i < length items → item ≡ slice_index_or items i item → (k : Key)
    → held_keys (drop i items) k ≡ (activity_keys false (λ id. is_activity_of id (view item)) k || held_keys (drop (i + 1) items) k)
next_held items i item within is k =
    let rest : Elements = elements_of (map view (drop (i + 1) items)) in
    ap (λ (js : Elements). activity_keys false (λ id. any_activity_of id js) k) (next_item view items i item within is)
    ∙ activities_or false (λ id. is_activity_of id (view item)) (λ id. any_activity_of id rest) k

pub no_held : (items : List Tree) (i : ℕ) → length items ≤ i → (k : Key) → held_keys (drop i items) k ≡ false
no_held items i past k = at_drop_all (λ (ts : List Tree). held_keys ts k) items i past ∙ activities_none false k

-- one of the four members holds it, if what has them is there
abbrev pub held_in : List ℕ → Option Json → Bool
held_in id o =
    option_map_or (holds_at (codes "parent") id) o false || option_map_or (holds_at (codes "grouping") id) o false
    || option_map_or (holds_at (codes "category") id) o false || option_map_or (holds_at (codes "other") id) o false

abbrev pub context_held_in : List ℕ → Option Json → Bool
context_held_in id o =
    option_map_or (context_holds (codes "parent") id) o false || option_map_or (context_holds (codes "grouping") id) o false
    || option_map_or (context_holds (codes "category") id) o false || option_map_or (context_holds (codes "other") id) o false

-- ---- both

pub named_none : (direct : Bool) (k : Key) → named_keys direct (λ ifi. false) (λ id. false) k ≡ false
named_none direct (key.Agent ifi) = and-false direct
named_none direct (key.RelatedAgent ifi) = refl
named_none direct (key.Activity id) = and-false direct
named_none direct (key.RelatedActivity id) = refl
named_none direct _ = refl

-- no object, no keys
pub no_object : (k : Key) → object_keys None k ≡ false
no_object k = ap (λ b. b || named_keys false (λ ifi. false) (λ id. false) k) (named_none true k) ∙ named_none false k

named_or : (direct : Bool) (p q : Ifi → Bool) (a b : List ℕ → Bool) (k : Key) → named_keys direct (λ ifi. p ifi || q ifi) (λ id. a id || b id) k ≡ (named_keys direct p a k || named_keys direct q b k)
named_or direct p q a b (key.Agent ifi) = and-or_distrib_left direct (p ifi) (q ifi)
named_or direct p q a b (key.RelatedAgent ifi) = refl
named_or direct p q a b (key.Activity id) = and-or_distrib_left direct (a id) (b id)
named_or direct p q a b (key.RelatedActivity id) = refl
named_or direct p q a b _ = refl

pub more_named : (direct : Bool) (p q : Ifi → Bool) (a b : List ℕ → Bool) (old mid new : List Key) → Adds old mid (named_keys direct p a) → Adds mid new (named_keys direct q b)
    → Adds old new (named_keys direct (λ ifi. p ifi || q ifi) (λ id. a id || b id))
more_named direct p q a b old mid new first second =
    adds_both old mid new (named_keys direct p a) (named_keys direct q b) (named_keys direct (λ ifi. p ifi || q ifi) (λ id. a id || b id)) (named_or direct p q a b) first second

party_or_activity : (direct : Bool) (p : Ifi → Bool) (a : List ℕ → Bool) (k : Key) → named_keys direct p a k ≡ (agent_keys direct p k || activity_keys direct a k)
party_or_activity direct p a (key.Agent ifi) = sym (or-false (direct && p ifi))
party_or_activity direct p a (key.RelatedAgent ifi) = sym (or-false (p ifi))
party_or_activity direct p a (key.Activity id) = refl
party_or_activity direct p a (key.RelatedActivity id) = refl
party_or_activity direct p a _ = refl

pub party_and_activity : (direct : Bool) (p : Ifi → Bool) (a : List ℕ → Bool) (old mid new : List Key) → Adds old mid (agent_keys direct p) → Adds mid new (activity_keys direct a) → Adds old new (named_keys direct p a)
party_and_activity direct p a old mid new first second =
    adds_both old mid new (agent_keys direct p) (activity_keys direct a) (named_keys direct p a) (party_or_activity direct p a) first second

party_or_named : (direct : Bool) (p q : Ifi → Bool) (a : List ℕ → Bool) (k : Key) → named_keys direct (λ ifi. p ifi || q ifi) a k ≡ (agent_keys direct p k || named_keys direct q a k)
party_or_named direct p q a (key.Agent ifi) = and-or_distrib_left direct (p ifi) (q ifi)
party_or_named direct p q a (key.RelatedAgent ifi) = refl
party_or_named direct p q a (key.Activity id) = refl
party_or_named direct p q a (key.RelatedActivity id) = refl
party_or_named direct p q a _ = refl

pub party_and_named : (direct : Bool) (p q : Ifi → Bool) (a : List ℕ → Bool) (old mid new : List Key) → Adds old mid (agent_keys direct p) → Adds mid new (named_keys direct q a)
    → Adds old new (named_keys direct (λ ifi. p ifi || q ifi) a)
party_and_named direct p q a old mid new first second =
    adds_both old mid new (agent_keys direct p) (named_keys direct q a) (named_keys direct (λ ifi. p ifi || q ifi) a) (party_or_named direct p q a) first second
