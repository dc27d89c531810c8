-- The text of a link is read as the link.
use Rattle.std.proofs.Common.{◌≡◌, ℕ, ◌<◌, ◌≤◌, ◌^◌, ◌==◌, ◌&&◌, ◌++◌, Bool, true, false, nat_le, nat_lt, if◌then◌else◌, List, [], ◌∷◌, length, map, Option, Some, None, is_some, is_ok, Result, Ok, Err, MatchOption, option_map, option_and_then, IsUtf8, codes, ℤ, append_assoc, append-nil, ⊎_elim, refl, sym, ap, ◌∙◌, subst, arith}
use Rattle.std.specs.Char.{is_ascii_digit}
use Rattle.std.specs.Fmt.{decimal}
use Rattle.std.specs.List.{list_all}
use Rattle.std.specs.Option.{option_map_or}
use Rattle.std.specs.Result.{result_ok}
use Rattle.std.specs.Str.{bytes_eq}
use Rattle.std.specs.Str.Parse.{AllDigits, digits_value}
use Rattle.std.proofs.lemmas.Bool.Decides.{nat_tests}
use Rattle.std.proofs.lemmas.Fmt.{decimal_is_IsNumeral, decimal_nonempty, length-decimal-le}
use Rattle.std.proofs.lemmas.List.Elements.{All-head, All-tail}
use Rattle.std.specs.Cmp.{first_so, second_so}
use Rattle.form_urlencoded.specs.Form.{decode, extend_pairs, parse, raw_pairs}
use Rattle.form_urlencoded.proofs.FormLemmas.{round_trip}
use Rattle.lrs_names.specs.Ids.{IsId, id_of, id_text}
use Rattle.lrs_names.specs.Iris.{is_iri}
use Rattle.lrs_agents.specs.declared.identifiers.Ifi.{Ifi}
use Rattle.lrs_names.proofs.IdTexts.{IsUtf8-id_text, id_of-id_text}
use Rattle.lrs_time.specs.Reading.{timestamp_at}
use Rattle.lrs_time.specs.declared.timestamps.TimeRefused.{TimeRefused}
use Rattle.lrs_time.proofs.DigitLemmas.{digit_test}
use Rattle.xapi_format.specs.declared.format.Format.{Format}
use Rattle.xapi_format.specs.declared.format.Format.TheVariants.{Exact, Ids}
use Rattle.xapi_parameters.specs.Links.{IsLink, LinksAreReadBack}
use Rattle.xapi_query.specs.Links.{format_pair, limit_pair, link_pairs, link_query, pair_if, pair_if_true}
use Rattle.xapi_parameters.specs.Pairs.{AreTexts, IsText, pair_of, pairs_of}
use Rattle.xapi_parameters.specs.Parameters.{LeastOfLink, Passes, are_among, are_distinct, given, has_ids, has_iris, has_link_numbers, has_timestamps, has_truths, link_names, passes}
use Rattle.xapi_parameters.specs.Queries.{AreFilters, IsActorGiven, IsQuery, capped, format_named, instant_in}
use Rattle.xapi_parameters.specs.Values.{IsActor, IsActorOf, is_format, is_id, is_limit, is_link_number, is_timestamp, is_truth}
use Rattle.xapi_parameters.specs.declared.asked.TheConstants.{MOST_LINK_DIGITS}
use Rattle.xapi_parameters.specs.declared.values.TheConstants.{MOST_LIMIT_DIGITS}
use Rattle.xapi_query.specs.declared.link.MoreLink.{MoreLink}
use Rattle.xapi_parameters.specs.declared.pair.Pair.{Pair}
use Rattle.xapi_query.specs.declared.query.Given.{Given}
use Rattle.xapi_query.specs.declared.query.Query.{Query}
use Rattle.xapi_query.specs.declared.query.TheConstants.{MOST_OF_PAGE}
use Rattle.lrs_json.proofs.SmallBytes.{IsUtf8-small}
use Rattle.xapi_parameters.proofs.Bytes.{IsUtf8-decimal, id_whole}
use Rattle.xapi_parameters.proofs.Least.{get_filters, link_filters}
use Rattle.xapi_parameters.proofs.Slots.{AreTextSlots, IsTextIf, Slot, among_in, as_pair, bytes_in, distinct_in, first_none, given_in, pairs_from, raw_of, texts_in}

-- ---- what is given in a link

abbrev asked : Bool → Option (List ℕ)
asked true = Some (codes "true")
asked false = None

abbrev limit_given : ℕ → Option (List ℕ)
limit_given size = if size == MOST_OF_PAGE then None else Some (decimal size)

abbrev format_given : Format → Option (List ℕ)
format_given Exact = None
format_given Ids = Some (codes "ids")

abbrev slots : MoreLink → List Slot
slots link =
    (codes "asof", Some (decimal link.asof)) ∷ (codes "after", Some (decimal link.after)) ∷ (codes "agent", option_map (λ g. g.text) link.query.agent)
    ∷ (codes "verb", link.query.verb) ∷ (codes "activity", link.query.activity) ∷ (codes "registration", option_map id_text link.query.registration)
    ∷ (codes "related_activities", asked link.query.related_activities) ∷ (codes "related_agents", asked link.query.related_agents)
    ∷ (codes "since", option_map (λ g. g.text) link.query.since) ∷ (codes "until", option_map (λ g. g.text) link.query.until)
    ∷ (codes "limit", limit_given link.query.page) ∷ (codes "ascending", asked link.query.ascending) ∷ (codes "format", format_given link.query.format) ∷ []

true_is : (name : List ℕ) (b : Bool) → pair_if_true name b ≡ pair_if name (asked b)
true_is name true = refl
true_is name false = refl

limit_at : (text : List ℕ) (b : Bool) → (if b then [] else (codes "limit", text) ∷ []) ≡ pair_if (codes "limit") (if b then None else Some text)
limit_at text true = refl
limit_at text false = refl

limit_is : (size : ℕ) → limit_pair size ≡ pair_if (codes "limit") (limit_given size)
limit_is size = limit_at (decimal size) (size == MOST_OF_PAGE)

format_is_given : (format : Format) → format_pair format ≡ pair_if (codes "format") (format_given format)
format_is_given Exact = refl
format_is_given Ids = refl

joined : (a b c d e f g h i j k : List (List ℕ × List ℕ)) → (a ++ b ++ c ++ d) ++ (e ++ f) ++ (g ++ h) ++ (i ++ j ++ k) ≡ a ++ (b ++ (c ++ (d ++ (e ++ (f ++ (g ++ (h ++ (i ++ (j ++ (k ++ []))))))))))
joined a b c d e f g h i j k = simp (append_assoc, append-nil) refl

slots_are : (link : MoreLink) → link_pairs link ≡ raw_of (slots link)
slots_are link =
    let q = link.query in
    let agent = pair_if (codes "agent") (option_map (λ g. g.text) q.agent) in
    let verb = pair_if (codes "verb") q.verb in
    let activity = pair_if (codes "activity") q.activity in
    let registration = pair_if (codes "registration") (option_map id_text q.registration) in
    let since = pair_if (codes "since") (option_map (λ g. g.text) q.since) in
    let until = pair_if (codes "until") (option_map (λ g. g.text) q.until) in
    ap (λ (more : List (List ℕ × List ℕ)). (codes "asof", decimal link.asof) ∷ (codes "after", decimal link.after) ∷ more)
    ((λ i. (agent ++ verb ++ activity ++ registration) ++ (true_is (codes "related_activities") q.related_activities i ++ true_is (codes "related_agents") q.related_agents i) ++ (since ++ until)
    ++ (limit_is q.page i ++ true_is (codes "ascending") q.ascending i ++ format_is_given q.format i))
    ∙ joined agent verb activity registration (pair_if (codes "related_activities") (asked q.related_activities)) (pair_if (codes "related_agents") (asked q.related_agents)) since until
    (pair_if (codes "limit") (limit_given q.page)) (pair_if (codes "ascending") (asked q.ascending)) (pair_if (codes "format") (format_given q.format)))

fused : (raws : List (List ℕ × List ℕ)) → map pair_of raws ≡ map as_pair (map (λ (raw : List ℕ × List ℕ). (decode raw.0, decode raw.1)) raws)
fused [] = refl
fused (raw ∷ raws) = ap (λ (pairs : List Pair). pair_of raw ∷ pairs) (fused raws)

pairs_are : (link : MoreLink) → AreTextSlots (slots link) → pairs_of (link_query link) ≡ pairs_from (slots link)
pairs_are link texts =
    fused (raw_pairs (link_query link))
    ∙ ap (map as_pair) (ap (λ (pairs : List (List ℕ × List ℕ)). parse (extend_pairs [] pairs)) (slots_are link) ∙ round_trip (raw_of (slots link)) (bytes_in (slots link) texts))

-- what stands under each name
record Shown (P : List Pair) (link : MoreLink) : Type 0 where
  among : are_among link_names P ≡ true
  distinct : are_distinct P ≡ true
  one : given (codes "statementId") P ≡ None
  voided : given (codes "voidedStatementId") P ≡ None
  asof : given (codes "asof") P ≡ Some (decimal link.asof)
  after : given (codes "after") P ≡ Some (decimal link.after)
  agent : given (codes "agent") P ≡ option_map (λ g. g.text) link.query.agent
  verb : given (codes "verb") P ≡ link.query.verb
  activity : given (codes "activity") P ≡ link.query.activity
  registration : given (codes "registration") P ≡ option_map id_text link.query.registration
  related_activities : given (codes "related_activities") P ≡ asked link.query.related_activities
  related_agents : given (codes "related_agents") P ≡ asked link.query.related_agents
  since : given (codes "since") P ≡ option_map (λ g. g.text) link.query.since
  until : given (codes "until") P ≡ option_map (λ g. g.text) link.query.until
  limit : given (codes "limit") P ≡ limit_given link.query.page
  ascending : given (codes "ascending") P ≡ asked link.query.ascending
  format : given (codes "format") P ≡ format_given link.query.format

shown : (link : MoreLink) → Shown (pairs_from (slots link)) link
shown link = record {
  among = among_in link_names (slots link) refl;
  distinct = distinct_in (slots link) refl;
  one = given_in (codes "statementId") (slots link);
  voided = given_in (codes "voidedStatementId") (slots link);
  asof = given_in (codes "asof") (slots link);
  after = given_in (codes "after") (slots link);
  agent = given_in (codes "agent") (slots link) ∙ first_none (option_map (λ g. g.text) link.query.agent);
  verb = given_in (codes "verb") (slots link) ∙ first_none link.query.verb;
  activity = given_in (codes "activity") (slots link) ∙ first_none link.query.activity;
  registration = given_in (codes "registration") (slots link) ∙ first_none (option_map id_text link.query.registration);
  related_activities = given_in (codes "related_activities") (slots link) ∙ first_none (asked link.query.related_activities);
  related_agents = given_in (codes "related_agents") (slots link) ∙ first_none (asked link.query.related_agents);
  since = given_in (codes "since") (slots link) ∙ first_none (option_map (λ g. g.text) link.query.since);
  until = given_in (codes "until") (slots link) ∙ first_none (option_map (λ g. g.text) link.query.until);
  limit = given_in (codes "limit") (slots link) ∙ first_none (limit_given link.query.page);
  ascending = given_in (codes "ascending") (slots link) ∙ first_none (asked link.query.ascending);
  format = given_in (codes "format") (slots link) ∙ first_none (format_given link.query.format);
}

-- ---- what holds of a query that was asked for

abbrev IsActorIf : Option (Given Ifi) → Type 0
IsActorIf o = MatchOption o (Unit {0}) (λ g. IsUtf8 g.text × IsActorOf g.text g.value)

abbrev IsInstantIf : Option (Given ℤ) → Type 0
IsInstantIf o = MatchOption o (Unit {0}) (λ g. IsUtf8 g.text × (result_ok (timestamp_at g.text) ≡ Some g.value))

abbrev IsIdIf : Option (List ℕ) → Type 0
IsIdIf o = MatchOption o (Unit {0}) IsId

record Holds (q : Query) : Type 0 where
  agent : IsActorIf q.agent
  verb : IsTextIf q.verb
  verb_iri : option_map_or is_iri q.verb true ≡ true
  activity : IsTextIf q.activity
  activity_iri : option_map_or is_iri q.activity true ≡ true
  registration : IsIdIf q.registration
  since : IsInstantIf q.since
  until : IsInstantIf q.until
  low : 1 ≤ q.page
  high : q.page ≤ MOST_OF_PAGE

text_at : (b : Bool) (text : List ℕ) (o : Option (List ℕ)) → IsUtf8 text → IsTextIf o → IsTextIf (if b then Some text else o)
text_at true text o u rest = u
text_at false text o u rest = rest

given_text : (name : List ℕ) (pairs : List Pair) → AreTexts pairs → IsTextIf (given name pairs)
given_text name [] texts = tt
given_text name (pair ∷ pairs) texts =
    text_at (bytes_eq pair.name name) pair.value (given name pairs) (All-head IsText pair pairs texts).1 (given_text name pairs (All-tail IsText pair pairs texts))

agent_holds : (t : Option (List ℕ)) (a : Option (Given Ifi)) → IsTextIf t → IsActorGiven t a → IsActorIf a
agent_holds None None u x = tt
agent_holds None (Some a) u x = absurd x
agent_holds (Some t) None u x = tt
agent_holds (Some t) (Some a) u x = (subst IsUtf8 (sym x.0) u, subst (λ (text : List ℕ). IsActorOf text a.value) (sym x.0) x.1)

instant_at : (t : List ℕ) (x : Option ℤ) → IsUtf8 t → result_ok (timestamp_at t) ≡ x → IsInstantIf (option_map (λ instant. record { text = t; value = instant }) x)
instant_at t None u is = tt
instant_at t (Some instant) u is = (u, is)

instant_holds : (t : Option (List ℕ)) → IsTextIf t → IsInstantIf (option_and_then instant_in t)
instant_holds None u = tt
instant_holds (Some t) u = instant_at t (result_ok (timestamp_at t)) u refl

id_at : (t : List ℕ) (o : Option (List ℕ)) → id_of t ≡ o → IsIdIf o
id_at t None is = tt
id_at t (Some id) is = id_whole t id is

id_holds : (t : Option (List ℕ)) → IsIdIf (option_and_then id_of t)
id_holds None = tt
id_holds (Some t) = id_at t (id_of t) refl

capped_low : (n : ℕ) → 1 ≤ capped n
capped_low n = grind (arith, nat_tests)

capped_high : (n : ℕ) → capped n ≤ MOST_OF_PAGE
capped_high n = grind (arith, nat_tests)

page_low : (t : Option (List ℕ)) → 1 ≤ option_map_or (λ t. capped (digits_value 10 t)) t MOST_OF_PAGE
page_low None = omega arith
page_low (Some t) = capped_low (digits_value 10 t)

page_high : (t : Option (List ℕ)) → option_map_or (λ t. capped (digits_value 10 t)) t MOST_OF_PAGE ≤ MOST_OF_PAGE
page_high None = omega arith
page_high (Some t) = capped_high (digits_value 10 t)

holds : (pairs : List Pair) (q : Query) → AreTexts pairs → AreFilters pairs → IsQuery pairs q → Holds q
holds pairs q texts filters is = record {
  agent = agent_holds (given (codes "agent") pairs) q.agent (given_text (codes "agent") pairs texts) is.agent_is;
  verb = subst IsTextIf (sym is.verb_is) (given_text (codes "verb") pairs texts);
  verb_iri = ap (λ o. option_map_or is_iri o true) is.verb_is ∙ first_so (passes is_iri (codes "verb") pairs) (passes is_iri (codes "activity") pairs) filters.iris;
  activity = subst IsTextIf (sym is.activity_is) (given_text (codes "activity") pairs texts);
  activity_iri = ap (λ o. option_map_or is_iri o true) is.activity_is ∙ second_so (passes is_iri (codes "verb") pairs) (passes is_iri (codes "activity") pairs) filters.iris;
  registration = subst IsIdIf (sym is.registration_is) (id_holds (given (codes "registration") pairs));
  since = subst IsInstantIf (sym is.since_is) (instant_holds (given (codes "since") pairs) (given_text (codes "since") pairs texts));
  until = subst IsInstantIf (sym is.until_is) (instant_holds (given (codes "until") pairs) (given_text (codes "until") pairs texts));
  low = subst (λ (n : ℕ). 1 ≤ n) (sym is.page_is) (page_low (given (codes "limit") pairs));
  high = subst (λ (n : ℕ). n ≤ MOST_OF_PAGE) (sym is.page_is) (page_high (given (codes "limit") pairs));
}

-- ---- each text is UTF-8

actor_text : (a : Option (Given Ifi)) → IsActorIf a → IsTextIf (option_map (λ g. g.text) a)
actor_text None x = tt
actor_text (Some g) x = x.0

instant_text : (s : Option (Given ℤ)) → IsInstantIf s → IsTextIf (option_map (λ g. g.text) s)
instant_text None x = tt
instant_text (Some g) x = x.0

id_texts : (o : Option (List ℕ)) → IsTextIf (option_map id_text o)
id_texts None = tt
id_texts (Some id) = IsUtf8-id_text id

asked_text : (b : Bool) → IsTextIf (asked b)
asked_text true = IsUtf8-small (codes "true") refl
asked_text false = tt

limit_text_at : (text : List ℕ) (b : Bool) → IsUtf8 text → IsTextIf (if b then None else Some text)
limit_text_at text true u = tt
limit_text_at text false u = u

format_text : (format : Format) → IsTextIf (format_given format)
format_text Exact = tt
format_text Ids = IsUtf8-small (codes "ids") refl

slot_texts : (link : MoreLink) → Holds link.query → link.asof < 2 ^ 64 → link.after < 2 ^ 64 → AreTextSlots (slots link)
slot_texts link h asof after =
    let page : link.query.page < 2 ^ 64 = let high = h.high in omega arith in (
      IsUtf8-small (codes "asof") refl,
      IsUtf8-decimal link.asof asof,
      (
        IsUtf8-small (codes "after") refl,
        IsUtf8-decimal link.after after,
        (
          IsUtf8-small (codes "agent") refl,
          actor_text link.query.agent h.agent,
          (
            IsUtf8-small (codes "verb") refl,
            h.verb,
            (
              IsUtf8-small (codes "activity") refl,
              h.activity,
              (
                IsUtf8-small (codes "registration") refl,
                id_texts link.query.registration,
                (
                  IsUtf8-small (codes "related_activities") refl,
                  asked_text link.query.related_activities,
                  (
                    IsUtf8-small (codes "related_agents") refl,
                    asked_text link.query.related_agents,
                    (
                      IsUtf8-small (codes "since") refl,
                      instant_text link.query.since h.since,
                      (
                        IsUtf8-small (codes "until") refl,
                        instant_text link.query.until h.until,
                        (
                          IsUtf8-small (codes "limit") refl,
                          limit_text_at (decimal link.query.page) (link.query.page == MOST_OF_PAGE) (IsUtf8-decimal link.query.page page),
                          (
                            IsUtf8-small (codes "ascending") refl,
                            asked_text link.query.ascending,
                            (
                              IsUtf8-small (codes "format") refl,
                              format_text link.query.format,
                              tt,
                            ),
                          ),
                        ),
                      ),
                    ),
                  ),
                ),
              ),
            ),
          ),
        ),
      ),
    )

-- ---- no rule is broken

all_digits : (ds : List ℕ) → AllDigits 10 ds → list_all is_ascii_digit ds ≡ true
all_digits [] all = refl
all_digits (d ∷ ds) all =
    let first = digit_test d all.0 in
    let rest = all_digits ds all.1 in
    rw (first, rest) refl

digits_pass : (most n : ℕ) → 0 < most → n < 10 ^ most → n < 2 ^ 64 → (nat_le 1 (length (decimal n)) && nat_le (length (decimal n)) most && list_all is_ascii_digit (decimal n)) ≡ true
digits_pass most n some small fits =
    let a : nat_le 1 (length (decimal n)) ≡ true = let filled = decimal_nonempty n fits in grind (arith, nat_tests) in
    let b : nat_le (length (decimal n)) most ≡ true = let few = length-decimal-le most n some small fits in grind (arith, nat_tests) in
    let c : list_all is_ascii_digit (decimal n) ≡ true = all_digits (decimal n) (decimal_is_IsNumeral n fits).0.1 in
    λ i. a i && b i && c i

id_passes : (o : Option (List ℕ)) → IsIdIf o → option_map_or is_id (option_map id_text o) true ≡ true
id_passes None x = refl
id_passes (Some id) x = ap is_some (id_of-id_text id x)

ids_pass : (P : List Pair) (link : MoreLink) → Shown P link → Holds link.query → has_ids P ≡ true
ids_pass P link s h =
    (λ i. option_map_or is_id (s.one i) true && option_map_or is_id (s.voided i) true && option_map_or is_id (s.registration i) true) ∙ id_passes link.query.registration h.registration

actor_passes : (a : Option (Given Ifi)) → IsActorIf a → MatchOption (option_map (λ g. g.text) a) (Unit {0}) IsActor
actor_passes None x = tt
actor_passes (Some g) x = (g.value, x.1)

agent_passes : (P : List Pair) (link : MoreLink) → Shown P link → Holds link.query → Passes IsActor (codes "agent") P
agent_passes P link s h = subst (λ (o : Option (List ℕ)). MatchOption o (Unit {0}) IsActor) (sym s.agent) (actor_passes link.query.agent h.agent)

iris_pass : (P : List Pair) (link : MoreLink) → Shown P link → Holds link.query → has_iris P ≡ true
iris_pass P link s h = (λ i. option_map_or is_iri (s.verb i) true && option_map_or is_iri (s.activity i) true) ∙ (λ i. h.verb_iri i && h.activity_iri i)

asked_passes : (b : Bool) → option_map_or is_truth (asked b) true ≡ true
asked_passes true = refl
asked_passes false = refl

truths_pass : (P : List Pair) (link : MoreLink) → Shown P link → has_truths P ≡ true
truths_pass P link s =
    (λ i. option_map_or is_truth (s.related_agents i) true && option_map_or is_truth (s.related_activities i) true && option_map_or is_truth (s.ascending i) true)
    ∙ (λ i. asked_passes link.query.related_agents i && asked_passes link.query.related_activities i && asked_passes link.query.ascending i)

is_read : (r : Result ℤ TimeRefused) (instant : ℤ) → result_ok r ≡ Some instant → is_ok r ≡ true
is_read (Ok value) instant is = refl
is_read (Err e) instant is = absurd (cc is)

instant_passes : (o : Option (Given ℤ)) → IsInstantIf o → option_map_or is_timestamp (option_map (λ g. g.text) o) true ≡ true
instant_passes None x = refl
instant_passes (Some g) x = is_read (timestamp_at g.text) g.value x.1

times_pass : (P : List Pair) (link : MoreLink) → Shown P link → Holds link.query → has_timestamps P ≡ true
times_pass P link s h =
    (λ i. option_map_or is_timestamp (s.since i) true && option_map_or is_timestamp (s.until i) true)
    ∙ (λ i. instant_passes link.query.since h.since i && instant_passes link.query.until h.until i)

limit_passes_at : (text : List ℕ) (b : Bool) → is_limit text ≡ true → option_map_or is_limit (if b then None else Some text) true ≡ true
limit_passes_at text true is = refl
limit_passes_at text false is = is

limit_passes : (P : List Pair) (link : MoreLink) → Shown P link → Holds link.query → passes is_limit (codes "limit") P ≡ true
limit_passes P link s h =
    let high = h.high in
    ap (λ (o : Option (List ℕ)). option_map_or is_limit o true) s.limit
    ∙ limit_passes_at (decimal link.query.page) (link.query.page == MOST_OF_PAGE) (digits_pass MOST_LIMIT_DIGITS link.query.page (omega arith) (omega arith) (omega arith))

format_passes_at : (format : Format) → option_map_or is_format (format_given format) true ≡ true
format_passes_at Exact = refl
format_passes_at Ids = refl

format_passes : (P : List Pair) (link : MoreLink) → Shown P link → passes is_format (codes "format") P ≡ true
format_passes P link s = ap (λ (o : Option (List ℕ)). option_map_or is_format o true) s.format ∙ format_passes_at link.query.format

numbers_pass : (P : List Pair) (link : MoreLink) → Shown P link → link.after < link.asof → link.asof < 10 ^ MOST_LINK_DIGITS → has_link_numbers P ≡ true
numbers_pass P link s within short =
    let one = digits_pass MOST_LINK_DIGITS link.asof (omega arith) short (omega arith) in
    let other = digits_pass MOST_LINK_DIGITS link.after (omega arith) (omega arith) (omega arith) in
    let asof : digits_value 10 (decimal link.asof) ≡ link.asof = (decimal_is_IsNumeral link.asof (omega arith)).1 in
    let after : digits_value 10 (decimal link.after) ≡ link.after = (decimal_is_IsNumeral link.after (omega arith)).1 in
    let less : nat_lt link.after link.asof ≡ true = grind (arith, nat_tests) in
    (λ i. option_map_or is_link_number (s.asof i) false && option_map_or is_link_number (s.after i) false && nat_lt (option_map_or (digits_value 10) (s.after i) 0) (option_map_or (digits_value 10) (s.asof i) 0))
    ∙ (λ i. one i && other i && nat_lt (after i) (asof i)) ∙ less

unbroken : (P : List Pair) (link : MoreLink) → Shown P link → Holds link.query → link.after < link.asof → link.asof < 10 ^ MOST_LINK_DIGITS → LeastOfLink None P
unbroken P link s h within short = (
  s.among,
  (
    s.distinct,
    (ids_pass P link s h, (agent_passes P link s h, (iris_pass P link s h, (truths_pass P link s, (times_pass P link s h, (limit_passes P link s h, (format_passes P link s, (numbers_pass P link s within short, refl)))))))),
  ),
)

-- ---- it asks for the link

actor_again : (a : Option (Given Ifi)) → IsActorIf a → IsActorGiven (option_map (λ g. g.text) a) a
actor_again None x = tt
actor_again (Some g) x = (refl, x.1)

id_again : (o : Option (List ℕ)) → IsIdIf o → o ≡ option_and_then id_of (option_map id_text o)
id_again None x = refl
id_again (Some id) x = sym (id_of-id_text id x)

asked_again : (b : Bool) → b ≡ option_map_or (λ t. bytes_eq t (codes "true")) (asked b) false
asked_again true = refl
asked_again false = refl

instant_again : (o : Option (Given ℤ)) → IsInstantIf o → o ≡ option_and_then instant_in (option_map (λ g. g.text) o)
instant_again None x = refl
instant_again (Some g) x = sym (ap (option_map (λ instant. record { text = g.text; value = instant })) x.1)

page_at : (size : ℕ) (b : Bool) → (size == MOST_OF_PAGE) ≡ b → capped (digits_value 10 (decimal size)) ≡ size
    → size ≡ option_map_or (λ t. capped (digits_value 10 t)) (if b then None else Some (decimal size)) MOST_OF_PAGE
page_at size true is same = grind (arith, nat_tests)
page_at size false is same = sym same

page_again : (size : ℕ) → 1 ≤ size → size ≤ MOST_OF_PAGE → size ≡ option_map_or (λ t. capped (digits_value 10 t)) (limit_given size) MOST_OF_PAGE
page_again size low high =
    let value : digits_value 10 (decimal size) ≡ size = (decimal_is_IsNumeral size (omega arith)).1 in
    let same : capped size ≡ size = grind (arith, nat_tests) in
    page_at size (size == MOST_OF_PAGE) refl (ap capped value ∙ same)

format_again : (format : Format) → format ≡ option_map_or format_named (format_given format) Exact
format_again Exact = refl
format_again Ids = refl

asks : (P : List Pair) (link : MoreLink) → Shown P link → Holds link.query → IsQuery P link.query
asks P link s h =
    let q = link.query in
    record {
      agent_is = subst (λ (o : Option (List ℕ)). IsActorGiven o q.agent) (sym s.agent) (actor_again q.agent h.agent);
      verb_is = sym s.verb;
      activity_is = sym s.activity;
      registration_is = id_again q.registration h.registration ∙ sym (ap (option_and_then id_of) s.registration);
      agents_are = asked_again q.related_agents ∙ sym (ap (λ (o : Option (List ℕ)). option_map_or (λ t. bytes_eq t (codes "true")) o false) s.related_agents);
      activities_are = asked_again q.related_activities ∙ sym (ap (λ (o : Option (List ℕ)). option_map_or (λ t. bytes_eq t (codes "true")) o false) s.related_activities);
      since_is = instant_again q.since h.since ∙ sym (ap (option_and_then instant_in) s.since);
      until_is = instant_again q.until h.until ∙ sym (ap (option_and_then instant_in) s.until);
      page_is = page_again q.page h.low h.high ∙ sym (ap (λ (o : Option (List ℕ)). option_map_or (λ t. capped (digits_value 10 t)) o MOST_OF_PAGE) s.limit);
      order_is = asked_again q.ascending ∙ sym (ap (λ (o : Option (List ℕ)). option_map_or (λ t. bytes_eq t (codes "true")) o false) s.ascending);
      format_is = format_again q.format ∙ sym (ap (λ (o : Option (List ℕ)). option_map_or format_named o Exact) s.format);
    }

is_link : (P : List Pair) (link : MoreLink) → Shown P link → Holds link.query → link.asof < 2 ^ 64 → link.after < 2 ^ 64 → IsLink P link
is_link P link s h asof after = record {
  query_is = asks P link s h;
  asof_is = sym (decimal_is_IsNumeral link.asof asof).1 ∙ sym (ap (λ (o : Option (List ℕ)). option_map_or (digits_value 10) o 0) s.asof);
  after_is = sym (decimal_is_IsNumeral link.after after).1 ∙ sym (ap (λ (o : Option (List ℕ)). option_map_or (digits_value 10) o 0) s.after);
}

pub links_back : LinksAreReadBack
links_back link w =
    let filters = ⊎_elim (λ least. get_filters w.pairs least) (λ least. link_filters w.pairs least) w.unbroken in
    let h = holds w.pairs link.query w.texts filters w.asked in
    let short = w.short in
    let within = w.within in
    let asof : link.asof < 2 ^ 64 = omega arith in
    let after : link.after < 2 ^ 64 = omega arith in
    let texts = slot_texts link h asof after in
    let P = pairs_from (slots link) in
    let s = shown link in
    subst (λ (pairs : List Pair). AreTexts pairs × LeastOfLink None pairs × IsLink pairs link) (sym (pairs_are link texts))
    (texts_in (slots link) texts, unbroken P link s h within short, is_link P link s h asof after)
