-- The pages of a list give it whole, and a link is told the same page for ever.
use Rattle.std.proofs.Common.{◌≡◌, ◌≢◌, ℕ, zero, suc, ◌+◌, ◌-◌, ◌^◌, ◌<◌, ◌≤◌, List, [], ◌∷◌, ◌++◌, length, take, map, reverse, Bool, true, false, Option, Some, None, refl, sym, ap, subst, ◌∙◌, arith, nat_lt, length-append, append_assoc}
use Rattle.std.specs.Prelude.{◌&&◌, filter, filter_map, slice_get, MatchOption, if◌then◌else◌}
use Rattle.std.specs.List.{AllByRecursion, cons_option, range_with_len}
use Rattle.std.specs.Option.{option_or}
use Rattle.std.specs.Cmp.{first_so, second_so}
use Rattle.std.proofs.lemmas.Bool.Decides.{nat_tests}
use Rattle.std.proofs.lemmas.List.{append-nil, length-drop, length-take, reverse-append, take-append-drop, take-append-le}
use Rattle.std.proofs.Math.Seq.{take-append_seam, take-length}
use Rattle.lrs_record.specs.declared.entry.Area.TheVariants.{Store}
use Rattle.lrs_command.specs.declared.command.Read.TheVariants as read
use Rattle.lrs_command.specs.declared.who.Who.{Who}
use Rattle.lrs_command.specs.declared.who.Who.TheVariants as who
use Rattle.lrs_rules.specs.declared.rule.Rule.TheVariants as rule
use Rattle.lrs_history.specs.Answers.{page_said, read_said}
use Rattle.lrs_history.specs.Effects.{effect}
use Rattle.lrs_history.specs.History.{only, refused_or, state, state_from, step, IsFounding, IsLegal, founds, is_operator, is_zero}
use Rattle.lrs_history.specs.Refusals.{barred, read_refusal, too_late}
use Rattle.lrs_history.specs.Whose.{acts_in_session, known_as, sight_in as sight_in_launch, sight_of, who_is}
use Rattle.lrs_json.specs.Written.{written}
use Rattle.lrs_laws.specs.Laws.{FirstPagesAreTold, FollowsLinks, LinksGoOn, LinksStay, LinksWhereMoreComes, PagesEnd, PagesGiveTheList, PositionsComeOnce, IsLetIn, sight_in, who_in}
use Rattle.lrs_laws.proofs.Keepers.{state_from-append}
use Rattle.lrs_laws.proofs.Lists.{each_at, slice_get-append}
use Rattle.lrs_laws.proofs.Paging.{IsInOrder, Links, distinct_in_order, each_filtered, filtered_in_order, linked, positions_in_order, unlinked}
use Rattle.lrs_laws.proofs.GivenTokens.{launch_on, no_provider_on, state_length, token_given}
use Rattle.lrs_laws.proofs.Launched.{launched_on, session_launched}
use Rattle.lrs_state.proofs.Keys.{index_kept}
use Rattle.lrs_state.specs.Launches.{launch_of_token}
use Rattle.lrs_state.specs.Providers.{index_of_token, token_of}
use Rattle.lrs_state.specs.Founding.{founding_after, is_admin, is_base, is_token}
use Rattle.lrs_state.specs.State.{State, nothing}
use Rattle.lrs_state.specs.declared.founding.Founding.{Founding}
use Rattle.lrs_record.specs.declared.entry.Caller.{Caller}
use Rattle.lrs_record.specs.declared.entry.Caller.TheVariants.{Nobody, Operator, Token}
use Rattle.lrs_record.specs.declared.entry.Entry.{Entry}
use Rattle.lrs_record.specs.declared.entry.Write.{Write}
use Rattle.lrs_record.specs.declared.entry.Write.TheVariants.{Found}
use Rattle.lrs_replies.specs.declared.answered.Answered.{Answered}
use Rattle.lrs_replies.specs.declared.answered.Answered.TheVariants.{Shown}
use Rattle.lrs_replies.specs.declared.answered.Refusal.{Refusal}
use Rattle.lrs_replies.specs.declared.answered.Refusal.TheVariants.{Broken}
use Rattle.lrs_ids.specs.Choices.{first_some, when}
use Rattle.xapi_pages.specs.Listings.{is_behind, is_listed_at, list_json, listing, listing_behind, more_text, page_behind, page_body, positions_of}
use Rattle.xapi_statement.specs.Statements.{add, add_each, is_held}
use Rattle.xapi_query.specs.declared.link.MoreLink.{MoreLink}
use Rattle.xapi_query.specs.declared.query.Query.{Query}
use Rattle.xapi_query.specs.declared.sight.Sight.{Sight}
use Rattle.xapi_query.specs.declared.wanted.Wanted.TheVariants.{Many}
use Rattle.xapi_statement.specs.Stored.{StoredStatement}

-- ---- one list

abbrev the_list : Query → Sight → List StoredStatement → List ℕ
the_list query sight s = listing query sight s

in_order : (query : Query) (sight : Sight) (s : List StoredStatement) → IsInOrder query.ascending (listing query sight s)
in_order query sight s = filtered_in_order query.ascending (is_listed_at query sight s) (positions_of query.ascending (length s)) (positions_in_order query.ascending (length s))

from_none : (ascending : Bool) (ks : List ℕ) → filter (is_behind ascending None) ks ≡ ks
from_none ascending [] = refl
from_none ascending (k ∷ ks) = ap (λ js. k ∷ js) (from_none ascending ks)

links : (query : Query) (sight : Sight) (s : List StoredStatement) (after : Option ℕ) (last : ℕ) → 0 < query.page → (page_behind query sight s after).link ≡ Some last
    → Links query.ascending (listing query sight s) after query.page last
links query sight s after last some is = linked query.ascending (listing query sight s) after query.page last some (in_order query sight s) is

-- ---- following

-- what is given by one page and those after it
abbrev FollowsOf : Query → Sight → ℕ → List StoredStatement → List (List StoredStatement) → Option ℕ → List ℕ → Type 0
FollowsOf query sight n s later after given =
    MatchOption (page_behind query sight s after).link (given ≡ (page_behind query sight s after).positions)
    (λ last. (rest : List ℕ) × (given ≡ (page_behind query sight s after).positions ++ rest) × FollowsLinks query sight n later (Some last) rest)

-- each list has these first statements
abbrev pub AreGrown : ℕ → List StoredStatement → List (List StoredStatement) → Type 0
AreGrown n s helds = AllByRecursion (λ held. take n held ≡ s) helds

whole_from : (query : Query) (sight : Sight) (n : ℕ) (s : List StoredStatement) (helds : List (List StoredStatement)) (after : Option ℕ) (given : List ℕ) → 0 < query.page → AreGrown n s helds
    → FollowsLinks query sight n helds after given → given ≡ listing_behind query sight s after
whole_from query sight n s [] after given some grown follows = absurd follows
whole_from query sight n s (held ∷ later) after given some grown follows =
    by_link (page_behind query sight s after).link refl (subst (λ t. FollowsOf query sight n t later after given) grown.0 follows)
    (λ last rest next. whole_from query sight n s later (Some last) rest some grown.1 next)
  where
    by_link : (o : Option ℕ) → (page_behind query sight s after).link ≡ o
        → MatchOption o (given ≡ take query.page (listing_behind query sight s after))
        (λ last. (rest : List ℕ) × (given ≡ take query.page (listing_behind query sight s after) ++ rest) × FollowsLinks query sight n later (Some last) rest)
        → ((last : ℕ) (rest : List ℕ) → FollowsLinks query sight n later (Some last) rest → rest ≡ listing_behind query sight s (Some last)) → given ≡ listing_behind query sight s after
    by_link None is gives next = gives ∙ unlinked (listing_behind query sight s after) query.page some is
    by_link (Some last) is gives next =
        gives.1
        ∙ (ap (λ rest. take query.page (listing_behind query sight s after) ++ rest) (next last gives.0 gives.2 ∙ (links query sight s after last some is).rest)
        ∙ take-append-drop query.page (listing_behind query sight s after))

ends_from : (query : Query) (sight : Sight) (n : ℕ) (s : List StoredStatement) (helds : List (List StoredStatement)) (after : Option ℕ) → 0 < query.page → AreGrown n s helds
    → length (listing_behind query sight s after) < length helds → FollowsLinks query sight n helds after (listing_behind query sight s after)
ends_from query sight n s [] after some grown fewer = absurd (omega (arith, fewer))
ends_from query sight n s (held ∷ later) after some grown fewer =
    subst (λ t. FollowsOf query sight n t later after (listing_behind query sight s after)) (sym grown.0)
    (by_link (page_behind query sight s after).link refl (λ last less. ends_from query sight n s later (Some last) some grown.1 less))
  where
    by_link : (o : Option ℕ) → (page_behind query sight s after).link ≡ o
        → ((last : ℕ) → length (listing_behind query sight s (Some last)) < length later → FollowsLinks query sight n later (Some last) (listing_behind query sight s (Some last)))
        → MatchOption o (listing_behind query sight s after ≡ take query.page (listing_behind query sight s after))
        (λ last. (rest : List ℕ) × (listing_behind query sight s after ≡ take query.page (listing_behind query sight s after) ++ rest) × FollowsLinks query sight n later (Some last) rest)
    by_link None is next = sym (unlinked (listing_behind query sight s after) query.page some is)
    by_link (Some last) is next =
        let shown = links query sight s after last some is in
        let shorter : length (listing_behind query sight s (Some last)) < length later =
        omega (arith, fewer, shown.more, ap (λ ks. length ks) shown.rest, length-drop query.page (listing_behind query sight s after)) in (
          listing_behind query sight s (Some last),
          sym (ap (λ rest. take query.page (listing_behind query sight s after) ++ rest) shown.rest ∙ take-append-drop query.page (listing_behind query sight s after)),
          next last shorter,
        )

-- ---- what is accepted stays

-- a list that goes on with others
abbrev BeginsAs : {A : Type 0} → List A → List A → Type 0
BeginsAs {A} old new = (more : List A) × (new ≡ old ++ more)

on_and_on : {A : Type 0} (a b c : List A) → BeginsAs a b → BeginsAs b c → BeginsAs a c
on_and_on a b c first next = (first.0 ++ next.0, next.1 ∙ (ap (λ xs. xs ++ next.0) first.1 ∙ append_assoc a first.0 next.0))

add_on : (held : List StoredStatement) (s : StoredStatement) → BeginsAs held (add held s)
add_on held s = by_held (is_held s.id held)
  where
    by_held : (b : Bool) → BeginsAs held (if b then held else held ++ s ∷ [])
    by_held true = ([], sym (append-nil held))
    by_held false = (s ∷ [], refl)

each_on : (held more : List StoredStatement) → BeginsAs held (add_each held more)
each_on held [] = ([], sym (append-nil held))
each_on held (s ∷ more) = on_and_on held (add held s) (add_each (add held s) more) (add_on held s) (each_on (add held s) more)

pub statements_on : (st : State) (more : List Entry) → BeginsAs st.statements (state_from st more).statements
statements_on st [] = ([], sym (append-nil st.statements))
statements_on st (e ∷ more) = on_and_on st.statements (step st e).statements (state_from (step st e) more).statements (each_on st.statements (effect st e).statements) (statements_on (step st e) more)

-- a token that is known keeps its index
pub known_on : (token : List ℕ) (k : ℕ) (st : State) (more : List Entry) → index_of_token token st.providers ≡ Some k → index_of_token token (state_from st more).providers ≡ Some k
known_on token k st [] is = is
known_on token k st (e ∷ more) is = known_on token k (step st e) more (index_kept token_of token st.providers (effect st e).providers k is)

grown_on : (h more : List Entry) → take (length (state h).statements) (state (h ++ more)).statements ≡ (state h).statements
grown_on h more =
    let on = statements_on (state h) more in
    ap (λ st. take (length (state h).statements) st.statements) (state_from-append nothing h more)
    ∙ (ap (λ xs. take (length (state h).statements) xs) on.1 ∙ take-append_seam (state h).statements on.0)

all_grown : (h : List Entry) (grown : List (List Entry)) → AreGrown (length (state h).statements) (state h).statements (map (λ more. (state (h ++ more)).statements) grown)
all_grown h [] = tt
all_grown h (more ∷ grown) = (grown_on h more, all_grown h grown)

-- ---- the laws on positions

pub pages_give_the_list : PagesGiveTheList
pages_give_the_list h grown query sight given some follows =
    whole_from query sight (length (state h).statements) (state h).statements (map (λ more. (state (h ++ more)).statements) grown) None given some (all_grown h grown) follows
    ∙ from_none query.ascending (listing query sight (state h).statements)

pub pages_end : PagesEnd
pages_end h grown query sight some fewer =
    let whole = from_none query.ascending (listing query sight (state h).statements) in
    subst (λ ks. FollowsLinks query sight (length (state h).statements) (map (λ more. (state (h ++ more)).statements) grown) None ks) whole
    (ends_from query sight (length (state h).statements) (state h).statements (map (λ more. (state (h ++ more)).statements) grown) None some (all_grown h grown)
    (omega (arith, fewer, ap (λ ks. length ks) whole, many grown)))
  where
    many : (xs : List (List Entry)) → length (map (λ more. (state (h ++ more)).statements) xs) ≡ length xs
    many [] = refl
    many (x ∷ xs) = ap suc (many xs)

pub positions_come_once : PositionsComeOnce
positions_come_once query sight statements = distinct_in_order query.ascending (listing query sight statements) (in_order query sight statements)

-- each position is below that number
abbrev AreBelow : ℕ → List ℕ → Type 0
AreBelow n ks = AllByRecursion (λ k. k < n) ks

range_below : (a m n : ℕ) → a + m ≤ n → AreBelow n (range_with_len a m)
range_below a zero n fits = tt
range_below a (suc m) n fits = (omega (arith, fits), range_below (a + 1) m n (omega (arith, fits)))

push_below : (n : ℕ) (ks : List ℕ) (k : ℕ) → AreBelow n ks → k < n → AreBelow n (ks ++ k ∷ [])
push_below n [] k each lt = (lt, tt)
push_below n (j ∷ ks) k each lt = (each.0, push_below n ks k each.1 lt)

turn_below : (n : ℕ) (ks : List ℕ) → AreBelow n ks → AreBelow n (reverse ks)
turn_below n [] each = tt
turn_below n (k ∷ ks) each = subst (λ js. AreBelow n js) (sym (reverse-append (k ∷ []) ks)) (push_below n (reverse ks) k (turn_below n ks each.1) each.0)

positions_below : (ascending : Bool) (n : ℕ) → AreBelow n (positions_of ascending n)
positions_below true n = range_below 0 n n (omega arith)
positions_below false n = turn_below n (range_with_len 0 n) (range_below 0 n n (omega arith))

listed_below : (query : Query) (sight : Sight) (s : List StoredStatement) (after : Option ℕ) → AreBelow (length s) (listing_behind query sight s after)
listed_below query sight s after =
    each_filtered (λ k. k < length s) (is_behind query.ascending after) (listing query sight s)
    (each_filtered (λ k. k < length s) (is_listed_at query sight s) (positions_of query.ascending (length s)) (positions_below query.ascending (length s)))

pub links_go_on : LinksGoOn
links_go_on query sight s after last some is =
    let shown = links query sight s after last some is in
    (shown.goes_on, each_at (λ k. k < length s) (listing_behind query sight s after) (query.page - 1) last (listed_below query sight s after) shown.there)

pub links_where_more_comes : LinksWhereMoreComes
links_where_more_comes query sight s after some = by_link (page_behind query sight s after).link refl
  where
    by_link : (o : Option ℕ) → (page_behind query sight s after).link ≡ o
        → MatchOption o (take query.page (listing_behind query sight s after) ≡ listing_behind query sight s after) (λ last. listing_behind query sight s (Some last) ≢ [])
    by_link None is = unlinked (listing_behind query sight s after) query.page some is
    by_link (Some last) is = λ none.
        let shown = links query sight s after last some is in
        omega (arith, shown.more, ap (λ ks. length ks) shown.rest, ap (λ ks. length ks) none, length-drop query.page (listing_behind query sight s after))

-- ---- what callers are told

-- what is told of a question to a caller who is let in, where it comes in time
asked : (by : Who) (late : Option Refusal) (said : Answered) → barred Store by ≡ None → late ≡ None → only (refused_or (option_or (barred Store by) (first_some (late ∷ None ∷ []))) said) ≡ only said
asked by late said let_in none =
    ap (λ o. only (refused_or (option_or o (first_some (late ∷ None ∷ []))) said)) let_in ∙ ap (λ o. only (refused_or (first_some (o ∷ None ∷ [])) said)) none

pub first_pages_are_told : FirstPagesAreTold
first_pages_are_told limit h caller query clock draw let_in =
    asked (who_in h caller) None (read_said (state h) (who_in h caller) (read.Statements (Many query))) let_in refl
    ∙ ap (λ s. only (Shown (page_body query (length (state h).statements) (state h).statements (page_behind query (sight_in h caller) s None)) (Some (state h).last))) (take-length (state h).statements)

-- what the store was founded with stays
pub founding_on : (st : State) (more : List Entry) (founding : Founding) → st.founding ≡ Some founding → (state_from st more).founding ≡ Some founding
founding_on st [] founding is = is
founding_on st (e ∷ more) founding is = founding_on (step st e) more founding (ap (λ o. founding_after o (effect st e).founding) is)

pub founded : (e : Entry) → IsFounding e → (founding : Founding) × ((step nothing e).founding ≡ Some founding) × (is_token founding.admin ≡ true)
founded e is = by_write e.write (second_so (is_operator e.caller && is_zero e.draw) (founds e.write) is)
  where
    by_write : (w : Write) → founds w ≡ true → (founding : Founding) × ((step nothing (record e { write = w })).founding ≡ Some founding) × (is_token founding.admin ≡ true)
    by_write (Found admin base) is = (record { admin = admin; base = base }, refl, first_so (is_token admin) (is_base base) is)
    by_write other is = absurd (cc is)

pub has_founding : (limit : ℕ) (h : List Entry) → IsLegal limit h → (founding : Founding) × ((state h).founding ≡ Some founding) × (is_token founding.admin ≡ true)
has_founding limit [] legal = absurd (omega (arith, legal.0))
has_founding limit (e ∷ h) legal =
    let first = founded e legal.1.1 in
    (first.0, founding_on (step nothing e) h first.0 first.1, first.2)

-- who is let in stays who he is
who_on : (h : List Entry) (su : State) (caller : Caller) → su.founding ≡ (state h).founding
    → ((token : List ℕ) (k : ℕ) → index_of_token token (state h).providers ≡ Some k → index_of_token token su.providers ≡ Some k)
    → ((token : List ℕ) (k : ℕ) → who_is (state h) caller ≡ who.Session k → index_of_token token (state h).providers ≡ None → launch_of_token token (state h).tokens ≡ Some k
    → (index_of_token token su.providers ≡ None) × (launch_of_token token su.tokens ≡ Some k))
    → barred Store (who_is (state h) caller) ≡ None → who_is su caller ≡ who_is (state h) caller
who_on h su Nobody founding known acts is = refl
who_on h su Operator founding known acts is = refl
who_on h su (Token token) founding known acts is =
    ap (λ f. if is_admin f token then who.Admin else known_as (index_of_token token su.providers) (launch_of_token token su.tokens)) founding ∙ by_admin (is_admin (state h).founding token) refl is
  where
    by_indices : (o p : Option ℕ) → index_of_token token (state h).providers ≡ o → launch_of_token token (state h).tokens ≡ p → is_admin (state h).founding token ≡ false → barred Store (known_as o p) ≡ None
        → known_as (index_of_token token su.providers) (launch_of_token token su.tokens) ≡ known_as o p
    by_indices None None at in_session no_admin let_in = cc let_in
    by_indices None (Some k) at in_session no_admin let_in =
        let by : who_is (state h) (Token token) ≡ who.Session k =
        ap (λ b. if b then who.Admin else known_as (index_of_token token (state h).providers) (launch_of_token token (state h).tokens)) no_admin
        ∙ (ap (λ o. known_as o (launch_of_token token (state h).tokens)) at ∙ ap (known_as None) in_session) in
        let later = acts token k by at in_session in
        ap (λ o. known_as o (launch_of_token token su.tokens)) later.0 ∙ ap (known_as None) later.1
    by_indices (Some k) p at in_session no_admin let_in = ap (λ o. known_as o (launch_of_token token su.tokens)) (known token k at)

    by_admin : (b : Bool) → is_admin (state h).founding token ≡ b → barred Store (if b then who.Admin else known_as (index_of_token token (state h).providers) (launch_of_token token (state h).tokens)) ≡ None
        → (if b then who.Admin else known_as (index_of_token token su.providers) (launch_of_token token su.tokens))
        ≡ (if b then who.Admin else known_as (index_of_token token (state h).providers) (launch_of_token token (state h).tokens))
    by_admin true admin let_in = refl
    by_admin false no_admin let_in = by_indices (index_of_token token (state h).providers) (launch_of_token token (state h).tokens) refl refl no_admin let_in

who_stays : (limit : ℕ) (h more : List Entry) (caller : Caller) → IsLegal limit h → (acts_in_session (who_in h caller) ≡ true → length (h ++ more) < 2 ^ 64) → IsLetIn h caller → who_in (h ++ more) caller ≡ who_in h caller
who_stays limit h more caller legal few let_in =
    let founding = has_founding limit h legal in
    ap (λ st. who_is st caller) (state_from-append nothing h more)
    ∙ who_on h (state_from (state h) more) caller (founding_on (state h) more founding.0 founding.1 ∙ sym founding.1)
    (λ token k is. known_on token k (state h) more is)
    (λ token k by none is. (
      no_provider_on h token (state h) more (token_given h token k is) (omega (arith, state_length h)) (omega (arith, few (ap acts_in_session by), state_length h, length-append h more)) none,
      launch_on token (state h) more k is,
    )) let_in

same_at : {A B : Type 0} (f g : A → Option B) (ks : List A) → AllByRecursion (λ k. f k ≡ g k) ks → filter_map f ks ≡ filter_map g ks
same_at f g [] each = refl
same_at f g (k ∷ ks) each = ap (λ o. cons_option o (filter_map f ks)) each.0 ∙ ap (λ xs. cons_option (g k) xs) (same_at f g ks each.1)

there_still : (n : ℕ) (xs ys : List StoredStatement) (ks : List ℕ) → AreBelow n ks → n ≤ length xs → AllByRecursion (λ k. slice_get (xs ++ ys) k ≡ slice_get xs k) ks
there_still n xs ys [] each fits = tt
there_still n xs ys (k ∷ ks) each fits = (slice_get-append xs ys k (omega (arith, each.0, fits)), there_still n xs ys ks each.1 fits)

take_below : (n size : ℕ) (ks : List ℕ) → AreBelow n ks → AreBelow n (take size ks)
take_below n zero ks each = tt
take_below n (suc size) [] each = tt
take_below n (suc size) (k ∷ ks) each = (each.0, take_below n size ks each.1)

same_body : (query : Query) (sight : Sight) (n : ℕ) (after : Option ℕ) (all more : List StoredStatement) → n ≤ length all
    → page_body query n (all ++ more) (page_behind query sight (take n (all ++ more)) after) ≡ page_body query n all (page_behind query sight (take n all) after)
same_body query sight n after all more fits =
    ap (λ s. page_body query n (all ++ more) (page_behind query sight s after)) (take-append-le n all more fits)
    ∙ ap (λ xs. written (list_json query.format xs (more_text query n (page_behind query sight (take n all) after).link)))
    (same_at (λ k. slice_get (all ++ more) k) (λ k. slice_get all k) (take query.page (listing_behind query sight (take n all) after))
    (there_still (length (take n all)) all more (take query.page (listing_behind query sight (take n all) after))
    (take_below (length (take n all)) query.page (listing_behind query sight (take n all) after) (listed_below query sight (take n all) after)) (omega (arith, length-take n all))))

-- the link speaks of no more statements than there are
in_time : (st : State) (link : MoreLink) (all more : List StoredStatement) → st.statements ≡ all ++ more → link.asof ≤ length all → too_late st (read.More link) ≡ None
in_time st link all more is fits = ap (λ b. when b (Broken (rule.P 14))) small
  where
    isnt : (a b : ℕ) → b ≤ a → nat_lt a b ≡ false
    isnt a b le = grind (arith, nat_tests)

    small : nat_lt (length st.statements) link.asof ≡ false
    small = isnt (length st.statements) link.asof (omega (arith, fits, ap (λ xs. length xs) is, length-append all more))

page_is : (st : State) (by : Who) (link : MoreLink) (all more : List StoredStatement) → st.statements ≡ all ++ more → link.asof ≤ length all
    → page_said st by link.query link.asof (Some link.after) ≡ Shown (page_body link.query link.asof all (page_behind link.query (sight_of st by) (take link.asof all) (Some link.after))) (Some st.last)
page_is st by link all more is fits =
    ap (λ s. Shown (page_body link.query link.asof s (page_behind link.query (sight_of st by) (take link.asof s) (Some link.after))) (Some st.last)) is
    ∙ ap (λ t. Shown t (Some st.last)) (same_body link.query (sight_of st by) link.asof (Some link.after) all more fits)

-- what a caller sees stays
sight_on : (h more : List Entry) (caller : Caller) (by : Who) → who_in h caller ≡ by → sight_of (state (h ++ more)) by ≡ sight_of (state h) by
sight_on h more caller who.Unknown is = refl
sight_on h more caller who.Admin is = refl
sight_on h more caller (who.Provider k) is = refl
sight_on h more caller (who.Session k) is =
    let acts = session_launched h caller k is in
    ap sight_in_launch (ap (λ (st : State). slice_get st.launches k) (state_from-append nothing h more) ∙ (launched_on (state h) more k acts.0 acts.1 ∙ sym acts.1))

pub links_stay : LinksStay
links_stay limit h more caller link clock draw legal few let_in fits =
    let on = statements_on (state h) more in
    let statements : (state (h ++ more)).statements ≡ (state h).statements ++ on.0 = ap (λ st. st.statements) (state_from-append nothing h more) ∙ on.1 in
    ap (λ by. only (refused_or (read_refusal (state (h ++ more)) by (read.More link)) (read_said (state (h ++ more)) by (read.More link)))) (who_stays limit h more caller legal few let_in)
    ∙ (asked (who_in h caller) (too_late (state (h ++ more)) (read.More link)) (read_said (state (h ++ more)) (who_in h caller) (read.More link)) let_in (in_time (state (h ++ more)) link (state h).statements on.0 statements fits)
    ∙ (ap only (page_is (state (h ++ more)) (who_in h caller) link (state h).statements on.0 statements fits)
    ∙ ap (λ s. only (Shown (page_body link.query link.asof (state h).statements (page_behind link.query s (take link.asof (state h).statements) (Some link.after))) (Some (state (h ++ more)).last)))
    (sight_on h more caller (who_in h caller) refl)))
