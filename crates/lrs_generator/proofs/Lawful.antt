-- Made statements break no rule, aren't too long and give themselves their ids, and those of a batch have different ones.
use Rattle.std.proofs.Common.{◌≡◌, ℕ, zero, suc, ◌+◌, ◌-◌, ◌*◌, ◌/◌, ◌%◌, ◌^◌, ◌<◌, ◌≤◌, Bool, true, false, not, ◌&&◌, ◌||◌, List, [], ◌∷◌, ◌++◌, map, length, Some, None, is_some, codes, refl, sym, ap, ◌∙◌, subst, arith, length-append}
use Rattle.std.specs.Fmt.{decimal}
use Rattle.std.specs.List.{AllByRecursion, range_with_len}
use Rattle.std.specs.Prelude.{◌==◌, if◌then◌else◌, nat_lt}
use Rattle.std.specs.Str.{bytes_eq, chars}
use Rattle.std.proofs.lemmas.Bool.Decides.{nat_tests}
use Rattle.std.proofs.lemmas.List.{length-map}
use Rattle.std.proofs.lemmas.List.Elements.{All-from_get_or}
use Rattle.std.proofs.lemmas.List.FromFn.{length-range_with_len}
use Rattle.std.specs.Int.{bytes_high_first}
use Rattle.uuid.proofs.TextLemmas.{by_index_length}
use Rattle.lrs_agents.specs.Agents.{agent_faults, agent_or_group_faults}
use Rattle.lrs_ids.specs.Ids.{are_distinct}
use Rattle.lrs_ids.proofs.FreshLemmas.{differs}
use Rattle.lrs_json.specs.Find.{find}
use Rattle.lrs_json.specs.Json.{Json, object, string, Members, no_members, member}
use Rattle.lrs_json.specs.View.{members_of, view}
use Rattle.lrs_json.specs.Written.{members_text, written}
use Rattle.lrs_json.specs.declared.tree.Tree.{Tree}
use Rattle.lrs_names.specs.Ids.{IsId, bits_of, id_of, id_of_word, id_text}
use Rattle.lrs_names.specs.Iris.{is_iri}
use Rattle.lrs_names.specs.Members.{is_one_of}
use Rattle.lrs_names.specs.Rules.{least, unless}
use Rattle.lrs_names.specs.declared.id.TheConstants.{WORDS}
use Rattle.lrs_names.proofs.IdTexts.{id_of-id_text}
use Rattle.lrs_names.proofs.WordBytes.{same_id_word, small_word_bytes}
use Rattle.xapi_index.specs.Batches.{given_ids, with_given}
use Rattle.xapi_rules.specs.Nulls.{has_null, role_of_member}
use Rattle.xapi_rules.specs.Objects.{activity_faults, is_activity, is_reference}
use Rattle.xapi_rules.specs.Rules.{action_faults, actor_faults, are_timestamps, broken_rule, form_faults, is_about_reference, is_fit_revision, is_verb, is_voided_verb, is_voiding, object_faults, own_faults, shared_faults, statement_faults, verb_faults, voids_reference}
use Rattle.xapi_rules.specs.declared.nulls.NullRole.TheVariants.{Plain, Object}
use Rattle.xapi_statement.specs.Statement.{has_context_activity, is_too_long, own_id}
use Rattle.xapi_values.specs.Kinds.{kind_of}
use Rattle.lrs_generator.specs.Generated.{batch, batch_count, id_at, id_json, length_of_batch, number_at, object_json, reference_json, statement_json, verb_iri}
use Rattle.lrs_generator.proofs.Lengths.{end_short, member_short, object_short, string_short, within}
use Rattle.lrs_generator.proofs.Spelled.{activity_is_iri, short_decimal, verb_is_iri, voided_is_iri}
use Rattle.lrs_generator.specs.declared.generator.TheConstants.{BATCH}

-- ---- ids

length-high_first : (k n : ℕ) → length (bytes_high_first k n) ≡ k
length-high_first zero n = refl
length-high_first (suc k) n = ap suc (length-high_first k n)

IsId-word : (word : ℕ) → IsId (id_of_word word)
IsId-word word =
    (length-high_first 16 (bits_of (word % WORDS)), All-from_get_or (λ b. b < 256) (id_of_word word) 0 (λ i less. small_word_bytes (bits_of (word % WORDS)) i))

read_back : (seed i : ℕ) → id_of (id_text (id_at seed i)) ≡ Some (id_at seed i)
read_back seed i = id_of-id_text (id_at seed i) (IsId-word (seed * 2 ^ 32 + i))

is_read : (seed i : ℕ) → is_some (id_of (id_text (id_at seed i))) ≡ true
is_read seed i = ap (λ o. is_some o) (read_back seed i)

length-id_text : (id : List ℕ) → length (id_text id) ≡ 36
length-id_text id = by_index_length 36 _

pub own_is : (seed i : ℕ) → own_id (statement_json seed i) ≡ Some (id_at seed i)
own_is seed i = read_back seed i

-- ---- the actor

-- the account of that name, and the learner whose it is
abbrev account : List ℕ → Json
account name = object (members_of ((codes "homePage", string (codes "https://l.invalid")) ∷ (codes "name", string name) ∷ []))

abbrev who : List ℕ → Json
who name = object (members_of ((codes "account", account name) ∷ []))

who_unbroken : (name : List ℕ) → actor_faults (who name) ≡ []
unfolding agent_or_group_faults agent_faults is_iri chars
who_unbroken name = refl

who_no_null : (name : List ℕ) → has_null Plain (who name) ≡ false
unfolding role_of_member
who_no_null name = refl

who_short : (name : List ℕ) → length name ≤ 50 → length (written (who name)) ≤ 800
who_short name few =
    let called : Members = member (codes "name") (string name) no_members in
    let whole : Members = member (codes "homePage") (string (codes "https://l.invalid")) called in
    let own : length (members_text true called) ≤ 367 = member_short true (codes "name") (string name) no_members 302 1 (within 10 (codes "name") refl) (string_short name few) end_short in
    let all : length (members_text false whole) ≤ 733 =
    member_short false (codes "homePage") (string (codes "https://l.invalid")) called 302 367 (within 10 (codes "homePage") refl)
    (string_short (codes "https://l.invalid") (within 50 (codes "https://l.invalid") refl)) own in
    let short : length (written (object whole)) ≤ 734 = object_short whole 733 all in
    object_short (member (codes "account") (object whole) no_members) 799
    (member_short false (codes "account") (object whole) no_members 734 1 (within 10 (codes "account") refl) short end_short)

-- ---- verbs and objects

-- what ends with a number of at most two digits
with_number : (words : List ℕ) (n : ℕ) → length words ≤ 48 → n < 100 → length (words ++ decimal n) ≤ 50
with_number words n few small =
    let digits : length (decimal n) ≤ 2 = short_decimal n small in
    let both : length (words ++ decimal n) ≡ length words + length (decimal n) = length-append words (decimal n) in
    omega arith

named_no_null : (iri : List ℕ) → has_null Plain (id_json iri) ≡ false
unfolding role_of_member
named_no_null iri = refl

named_short : (iri : List ℕ) → length iri ≤ 50 → length (written (id_json iri)) ≤ 368
named_short iri few =
    object_short (member (codes "id") (string iri) no_members) 367
    (member_short false (codes "id") (string iri) no_members 302 1 (within 10 (codes "id") refl) (string_short iri few) end_short)

named_unbroken : (iri : List ℕ) → is_iri iri ≡ true → verb_faults (id_json iri) ≡ []
unfolding verb_faults is_verb
named_unbroken iri known = ap (λ b. unless b 6 ++ []) known

activity_unbroken : (iri : List ℕ) → is_iri iri ≡ true → object_faults (id_json iri) ≡ []
unfolding object_faults kind_of activity_faults is_activity
activity_unbroken iri known = ap (λ b. unless b 6 ++ []) known

activity_no_null : (iri : List ℕ) → has_null Object (id_json iri) ≡ false
unfolding role_of_member kind_of
activity_no_null iri = refl

reference_unbroken : (id : List ℕ) → is_some (id_of (id_text id)) ≡ true → object_faults (reference_json id) ≡ []
unfolding object_faults kind_of is_reference
reference_unbroken id known = ap (λ b. unless b 22) known

reference_no_null : (id : List ℕ) → has_null Object (reference_json id) ≡ false
unfolding role_of_member kind_of
reference_no_null id = refl

reference_short : (id : List ℕ) → length (written (reference_json id)) ≤ 734
reference_short id =
    let long : length (id_text id) ≡ 36 = length-id_text id in
    let text : length (written (string (id_text id))) ≤ 302 = string_short (id_text id) (omega arith) in
    let last : Members = member (codes "id") (string (id_text id)) no_members in
    let own : length (members_text true last) ≤ 367 = member_short true (codes "id") (string (id_text id)) no_members 302 1 (within 10 (codes "id") refl) text end_short in
    object_short (member (codes "objectType") (string (codes "StatementRef")) last) 733
    (member_short false (codes "objectType") (string (codes "StatementRef")) last 302 367 (within 10 (codes "objectType") refl)
    (string_short (codes "StatementRef") (within 50 (codes "StatementRef") refl)) own)

-- ---- a verb beside an object

record AreSound (verb subject : Json) : Type 0 where
  verb_unbroken : verb_faults verb ≡ []
  subject_unbroken : object_faults subject ≡ []
  fit : (not (is_voided_verb verb) || is_about_reference subject) ≡ true
  verb_no_null : has_null Plain verb ≡ false
  subject_no_null : has_null Object subject ≡ false
  verb_short : length (written verb) ≤ 368
  subject_short : length (written subject) ≤ 734

-- a statement that voids is about a reference
voided_fits : (id : List ℕ) → (not (is_voided_verb (id_json (codes "http://adlnet.gov/expapi/verbs/voided"))) || is_about_reference (reference_json id)) ≡ true
unfolding kind_of
voided_fits id = refl

-- other verbs don't void
other_fits : (digits : List ℕ) (subject : Json) → (not (is_voided_verb (id_json (codes "http://v.invalid/" ++ digits))) || is_about_reference subject) ≡ true
other_fits digits subject = refl

other_iri : (x : ℕ) → is_iri (codes "http://v.invalid/" ++ decimal (x / 2 ^ 33 % 7)) ≡ true
other_iri x = verb_is_iri (x / 2 ^ 33 % 7) (omega arith)

other_short : (x : ℕ) → length (written (id_json (codes "http://v.invalid/" ++ decimal (x / 2 ^ 33 % 7)))) ≤ 368
other_short x = named_short (codes "http://v.invalid/" ++ decimal (x / 2 ^ 33 % 7)) (with_number (codes "http://v.invalid/") (x / 2 ^ 33 % 7) (within 48 (codes "http://v.invalid/") refl) (omega arith))

wider : (n : ℕ) → n ≤ 368 → n ≤ 734
wider n few = omega arith

are_sound : (seed i x : ℕ) → AreSound (id_json (verb_iri i x)) (object_json seed i x)
are_sound seed i x = by_index (i % 50 == 49) (i % 10 == 9)
  where
    by_index : (v r : Bool)
        → AreSound (id_json (if v then codes "http://adlnet.gov/expapi/verbs/voided" else codes "http://v.invalid/" ++ decimal (x / 2 ^ 33 % 7)))
        (if v then reference_json (id_at seed (i - 2)) else (if r then reference_json (id_at seed (i - 1)) else id_json (codes "http://a.invalid/" ++ decimal (x / 2 ^ 40 % 50))))
    by_index true r = record {
      verb_unbroken = named_unbroken (codes "http://adlnet.gov/expapi/verbs/voided") voided_is_iri;
      subject_unbroken = reference_unbroken (id_at seed (i - 2)) (is_read seed (i - 2));
      fit = voided_fits (id_at seed (i - 2));
      verb_no_null = named_no_null (codes "http://adlnet.gov/expapi/verbs/voided");
      subject_no_null = reference_no_null (id_at seed (i - 2));
      verb_short = named_short (codes "http://adlnet.gov/expapi/verbs/voided") (within 50 (codes "http://adlnet.gov/expapi/verbs/voided") refl);
      subject_short = reference_short (id_at seed (i - 2));
    }
    by_index false true = record {
      verb_unbroken = named_unbroken (codes "http://v.invalid/" ++ decimal (x / 2 ^ 33 % 7)) (other_iri x);
      subject_unbroken = reference_unbroken (id_at seed (i - 1)) (is_read seed (i - 1));
      fit = other_fits (decimal (x / 2 ^ 33 % 7)) (reference_json (id_at seed (i - 1)));
      verb_no_null = named_no_null (codes "http://v.invalid/" ++ decimal (x / 2 ^ 33 % 7));
      subject_no_null = reference_no_null (id_at seed (i - 1));
      verb_short = other_short x;
      subject_short = reference_short (id_at seed (i - 1));
    }
    by_index false false = record {
      verb_unbroken = named_unbroken (codes "http://v.invalid/" ++ decimal (x / 2 ^ 33 % 7)) (other_iri x);
      subject_unbroken = activity_unbroken (codes "http://a.invalid/" ++ decimal (x / 2 ^ 40 % 50)) (activity_is_iri (x / 2 ^ 40 % 50) (omega arith));
      fit = other_fits (decimal (x / 2 ^ 33 % 7)) (id_json (codes "http://a.invalid/" ++ decimal (x / 2 ^ 40 % 50)));
      verb_no_null = named_no_null (codes "http://v.invalid/" ++ decimal (x / 2 ^ 33 % 7));
      subject_no_null = activity_no_null (codes "http://a.invalid/" ++ decimal (x / 2 ^ 40 % 50));
      verb_short = other_short x;
      subject_short = wider _ (named_short (codes "http://a.invalid/" ++ decimal (x / 2 ^ 40 % 50)) (with_number (codes "http://a.invalid/") (x / 2 ^ 40 % 50) (within 48 (codes "http://a.invalid/") refl) (omega arith)));
    }

-- ---- the whole

module _ (id name : List ℕ) (verb subject : Json) (known : is_some (id_of id) ≡ true) (h : AreSound verb subject) where
  abbrev whole : Json
  whole = object (members_of ((codes "id", string id) ∷ (codes "actor", who name) ∷ (codes "verb", verb) ∷ (codes "object", subject) ∷ []))

  form_unbroken : form_faults whole ≡ []
  unfolding form_faults role_of_member
  form_unbroken = rw (who_no_null name, h.verb_no_null, h.subject_no_null) refl

  all_met : (a b c : Bool) → a ≡ true → b ≡ true → c ≡ true → unless a 4 ++ unless b 5 ++ unless c 22 ≡ []
  all_met a b c is_a is_b is_c = rw (is_a, is_b, is_c) refl

  own_unbroken : own_faults whole ≡ []
  unfolding own_faults voids_reference is_voiding
  own_unbroken = all_met (is_some (id_of id)) true (not (is_voided_verb verb) || is_about_reference subject) known refl h.fit

  none_of_three : (a b c : List ℕ) → a ≡ [] → b ≡ [] → c ≡ [] → a ++ b ++ c ≡ []
  none_of_three a b c no_a no_b no_c = rw (no_a, no_b, no_c) refl

  none_of_five : (a b c d e : List ℕ) → a ≡ [] → b ≡ [] → c ≡ [] → d ≡ [] → e ≡ [] → a ++ b ++ c ++ d ++ e ≡ []
  none_of_five a b c d e no_a no_b no_c no_d no_e = rw (no_a, no_b, no_c, no_d, no_e) refl

  action_unbroken : action_faults whole ≡ []
  unfolding action_faults
  action_unbroken = none_of_three (actor_faults (who name)) (verb_faults verb) [] (who_unbroken name) h.verb_unbroken refl

  shared_unbroken : shared_faults whole ≡ []
  unfolding shared_faults are_timestamps is_fit_revision
  shared_unbroken = none_of_five (action_faults whole) [] [] [] [] action_unbroken refl refl refl refl

  whole_unbroken : broken_rule whole ≡ None
  unfolding broken_rule statement_faults
  whole_unbroken =
      ap least (none_of_five (form_faults whole) (own_faults whole) (object_faults subject) [] (shared_faults whole)
      form_unbroken own_unbroken h.subject_unbroken refl shared_unbroken)

  whole_short : length id ≤ 50 → length name ≤ 50 → length (written whole) ≤ 2462
  whole_short few_id few_name =
      let m3 : Members = member (codes "object") subject no_members in
      let m2 : Members = member (codes "verb") verb m3 in
      let m1 : Members = member (codes "actor") (who name) m2 in
      let object_first : length (members_text true m3) ≤ 799 = member_short true (codes "object") subject no_members 734 1 (within 10 (codes "object") refl) h.subject_short end_short in
      let verb_first : length (members_text true m2) ≤ 1231 = member_short true (codes "verb") verb m3 368 799 (within 10 (codes "verb") refl) h.verb_short object_first in
      let actor_first : length (members_text true m1) ≤ 2095 = member_short true (codes "actor") (who name) m2 800 1231 (within 10 (codes "actor") refl) (who_short name few_name) verb_first in
      object_short (member (codes "id") (string id) m1) 2461
      (member_short false (codes "id") (string id) m1 302 2095 (within 10 (codes "id") refl) (string_short id few_id) actor_first)

-- ---- the laws

-- the name of its learner
abbrev name_at : ℕ → ℕ → List ℕ
name_at seed i = codes "u" ++ decimal (number_at seed i / 2 ^ 50 % 20)

-- it breaks no rule on statements
pub unbroken : (seed i : ℕ) → broken_rule (statement_json seed i) ≡ None
unbroken seed i =
    whole_unbroken (id_text (id_at seed i)) (name_at seed i) (id_json (verb_iri i (number_at seed i))) (object_json seed i (number_at seed i)) (is_read seed i) (are_sound seed i (number_at seed i))

-- it isn't too long
pub not_too_long : (seed i : ℕ) → is_too_long (statement_json seed i) ≡ false
unfolding is_too_long
not_too_long seed i =
    let long : length (id_text (id_at seed i)) ≡ 36 = length-id_text (id_at seed i) in
    let short : length (written (statement_json seed i)) ≤ 2462 =
    whole_short (id_text (id_at seed i)) (name_at seed i) (id_json (verb_iri i (number_at seed i))) (object_json seed i (number_at seed i)) (is_read seed i) (are_sound seed i (number_at seed i))
    (omega arith) (with_number (codes "u") (number_at seed i / 2 ^ 50 % 20) (within 48 (codes "u") refl) (omega arith)) in
    not_above (length (written (statement_json seed i))) short
  where
    not_above : (n : ℕ) → n ≤ 2462 → nat_lt 262144 n ≡ false
    not_above n few = grind (arith, nat_tests)

-- it has no context, so that cmi5 doesn't define what it says
pub no_context : (seed i : ℕ) → find (codes "context") (statement_json seed i) ≡ None
no_context seed i = refl

pub no_context_activity : (name id : List ℕ) (seed i : ℕ) → has_context_activity name id (statement_json seed i) ≡ false
unfolding has_context_activity
no_context_activity name id seed i = refl

-- ---- different ids

apart : (seed i k : ℕ) → seed < 2 ^ 64 → i < k → k ≤ 2 ^ 32 → id_at seed k ≡ id_at seed i → ⊥
apart seed i k seeds less few e =
    let same : seed * 2 ^ 32 + k ≡ seed * 2 ^ 32 + i = same_id_word (seed * 2 ^ 32 + k) (seed * 2 ^ 32 + i) (omega arith) (omega arith) e in
    omega arith

none_later : (seed i a n : ℕ) → seed < 2 ^ 64 → i < a → a + n ≤ 2 ^ 32 → is_one_of (map (id_at seed) (range_with_len a n)) (id_at seed i) ≡ false
none_later seed i a zero seeds less few = refl
none_later seed i a (suc n) seeds less few =
    let here : bytes_eq (id_at seed a) (id_at seed i) ≡ false = differs (id_at seed a) (id_at seed i) (apart seed i a seeds less (omega arith)) in
    ap (λ b. b || is_one_of (map (id_at seed) (range_with_len (a + 1) n)) (id_at seed i)) here ∙ none_later seed i (a + 1) n seeds (omega arith) (omega arith)

pub distinct_ids : (seed a n : ℕ) → seed < 2 ^ 64 → a + n ≤ 2 ^ 32 → are_distinct (map (id_at seed) (range_with_len a n)) ≡ true
distinct_ids seed a zero seeds few = refl
distinct_ids seed a (suc n) seeds few =
    ap (λ b. not b && are_distinct (map (id_at seed) (range_with_len (a + 1) n))) (none_later seed a (a + 1) n seeds (omega arith) (omega arith)) ∙ distinct_ids seed (a + 1) n seeds (omega arith)

-- ---- of trees

heads : (j k : Json) (js ks : List Json) → j ∷ js ≡ k ∷ ks → j ≡ k
heads j k js ks e = cc e

tails : (j k : Json) (js ks : List Json) → j ∷ js ≡ k ∷ ks → js ≡ ks
tails j k js ks e = cc e

not_empty : (j : Json) (js : List Json) → j ∷ js ≡ [] → ⊥
not_empty j js e = cc e

-- trees of these statements give themselves their ids
pub ids_given : (seed a n : ℕ) (trees : List Tree) → map view trees ≡ map (statement_json seed) (range_with_len a n) → given_ids trees ≡ map (id_at seed) (range_with_len a n)
ids_given seed a zero [] e = refl
ids_given seed a zero (t ∷ ts) e = absurd (not_empty (view t) (map view ts) e)
ids_given seed a (suc n) [] e = absurd (not_empty (statement_json seed a) (map (statement_json seed) (range_with_len (a + 1) n)) (sym e))
ids_given seed a (suc n) (t ∷ ts) e =
    let first : view t ≡ statement_json seed a = heads (view t) (statement_json seed a) (map view ts) (map (statement_json seed) (range_with_len (a + 1) n)) e in
    let rest : map view ts ≡ map (statement_json seed) (range_with_len (a + 1) n) = tails (view t) (statement_json seed a) (map view ts) (map (statement_json seed) (range_with_len (a + 1) n)) e in
    let own : own_id (view t) ≡ Some (id_at seed a) = ap own_id first ∙ own_is seed a in
    ap (λ o. with_given o (given_ids ts)) own ∙ ap (λ ids. id_at seed a ∷ ids) (ids_given seed (a + 1) n ts rest)

-- what holds of each of the statements holds of each of the trees
pub each : (P : Json → Type 0) (seed a n : ℕ) (trees : List Tree) → ((i : ℕ) → i < a + n → P (statement_json seed i)) → map view trees ≡ map (statement_json seed) (range_with_len a n)
    → AllByRecursion (λ (t : Tree). P (view t)) trees
each P seed a zero [] holds e = tt
each P seed a zero (t ∷ ts) holds e = absurd (not_empty (view t) (map view ts) e)
each P seed a (suc n) [] holds e = absurd (not_empty (statement_json seed a) (map (statement_json seed) (range_with_len (a + 1) n)) (sym e))
each P seed a (suc n) (t ∷ ts) holds e =
    let first : view t ≡ statement_json seed a = heads (view t) (statement_json seed a) (map view ts) (map (statement_json seed) (range_with_len (a + 1) n)) e in
    let rest : map view ts ≡ map (statement_json seed) (range_with_len (a + 1) n) = tails (view t) (statement_json seed a) (map view ts) (map (statement_json seed) (range_with_len (a + 1) n)) e in
    (subst P (sym first) (holds a (omega arith)), each P seed (a + 1) n ts (λ i less. holds i (omega arith)) rest)

-- ---- of batches

inside : (n j : ℕ) → j < batch_count n → j * BATCH + length_of_batch n j ≤ n
inside n j left = omega arith

pub each_of_batch : (P : Json → Type 0) (seed n j : ℕ) (trees : List Tree) → j < batch_count n → ((i : ℕ) → i < n → P (statement_json seed i)) → map view trees ≡ batch seed n j
    → AllByRecursion (λ (t : Tree). P (view t)) trees
each_of_batch P seed n j trees left holds e =
    let within_n : j * BATCH + length_of_batch n j ≤ n = inside n j left in
    each P seed (j * BATCH) (length_of_batch n j) trees (λ i less. holds i (omega arith)) e

pub distinct_batch : (seed n j : ℕ) (trees : List Tree) → seed < 2 ^ 64 → n < 2 ^ 32 → j < batch_count n → map view trees ≡ batch seed n j → are_distinct (given_ids trees) ≡ true
distinct_batch seed n j trees seeds few left e =
    let within_n : j * BATCH + length_of_batch n j ≤ n = inside n j left in
    ap are_distinct (ids_given seed (j * BATCH) (length_of_batch n j) trees e) ∙ distinct_ids seed (j * BATCH) (length_of_batch n j) seeds (omega arith)

pub few_trees : (seed n j : ℕ) (trees : List Tree) → map view trees ≡ batch seed n j → length trees ≤ BATCH
few_trees seed n j trees e =
    let same : length trees ≡ length_of_batch n j =
    sym (length-map trees view) ∙ ap (λ (js : List Json). length js) e ∙ length-map (range_with_len (j * BATCH) (length_of_batch n j)) (statement_json seed) ∙ length-range_with_len (j * BATCH) (length_of_batch n j) in
    omega arith
