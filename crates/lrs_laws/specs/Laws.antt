-- What follows from the definitions over every history: an id names one statement, for good, a batch is kept whole, and
-- the pages of a list give it whole.
use Rattle.std.specs.Prelude.{◌≡◌, ◌≢◌, ◌<◌, ◌≤◌, ◌+◌, ◌^◌, ◌==◌, ℕ, List, [], ◌∷◌, ◌++◌, length, map, take, Option}
use Rattle.std.specs.Prelude.{Some, None, MatchOption, true, false, IsTrue}
use Rattle.std.specs.List.{AllByRecursion, IsDistinct}
use Rattle.lrs_record.specs.declared.entry.Area.{Area}
use Rattle.lrs_record.specs.declared.entry.Area.TheVariants.{Store}
use Rattle.lrs_command.specs.declared.command.Command.{Command}
use Rattle.lrs_command.specs.declared.command.Command.TheVariants.{Read, Write}
use Rattle.lrs_command.specs.declared.command.Read.TheVariants as read
use Rattle.lrs_command.specs.declared.who.Who.{Who}
use Rattle.lrs_history.specs.Occasions.{Occasion, given_in, occasion, supply_in}
use Rattle.lrs_history.specs.History.{Answer, answer, next_entry, only, refused, state, with_entry, IsLegal}
use Rattle.lrs_history.specs.Refusals.{barred, refused_in, refused_batch, refused_form}
use Rattle.lrs_command.specs.Areas.{command_area}
use Rattle.lrs_history.specs.Whose.{acts_in_session, authority_of, sight_of, who_is}
use Rattle.lrs_json.specs.View.{view}
use Rattle.lrs_json.specs.declared.tree.Tree.{Tree}
use Rattle.lrs_names.specs.declared.draw.Draw.{Draw}
use Rattle.lrs_names.specs.declared.id.TheConstants.{WORDS}
use Rattle.lrs_names.specs.Members.{is_one_of}
use Rattle.lrs_state.specs.Launches.{session_ids}
use Rattle.lrs_state.specs.Registrations.{registration_ids}
use Rattle.lrs_state.specs.Sessions.{made_session_ids}
use Rattle.lrs_state.specs.State.{State, used_in}
use Rattle.lrs_record.specs.Entries.{AreLawfulTrees, IsLawfulTree}
use Rattle.lrs_record.specs.declared.entry.Caller.{Caller}
use Rattle.lrs_record.specs.declared.entry.Entry.{Entry}
use Rattle.lrs_record.specs.declared.entry.Write.{Write as AWrite}
use Rattle.lrs_record.specs.declared.entry.Write.TheVariants.{Put, Post}
use Rattle.lrs_replies.specs.Texts.{ids_body}
use Rattle.lrs_replies.specs.declared.answered.Answered.TheVariants.{Same, Shown}
use Rattle.lrs_replies.specs.declared.answered.Refusal.{Refusal}
use Rattle.lrs_replies.specs.declared.answered.Refusal.TheVariants.{Conflict}
use Rattle.xapi_alike.specs.Same.{same}
use Rattle.xapi_format.specs.declared.authority.Authority.{Authority}
use Rattle.xapi_index.specs.Batches.{WithId, given_ids, with_ids, ids_under}
use Rattle.lrs_ids.specs.Ids.{are_distinct}
use Rattle.xapi_pages.specs.Listings.{is_behind, listing, listing_behind, page_behind, page_body}
use Rattle.xapi_statement.specs.Statements.{held_under, ids_of, is_voided}
use Rattle.xapi_query.specs.declared.link.MoreLink.{MoreLink}
use Rattle.xapi_query.specs.declared.query.Query.{Query}
use Rattle.xapi_query.specs.declared.sight.Sight.{Sight}
use Rattle.xapi_query.specs.declared.wanted.Wanted.TheVariants.{Many}
use Rattle.xapi_statement.specs.Stored.{StoredStatement}
use Rattle.xapi_statement.specs.Statement.{own_id}

-- what a history makes of a caller
abbrev pub who_in : List Entry → Caller → Who
who_in h caller = who_is (state h) caller

-- the store lets the caller in
abbrev pub IsLetIn : List Entry → Caller → Type 0
IsLetIn h caller = barred Store (who_in h caller) ≡ None

-- a statement in form comes under an id under which this one is held
pub record ComesUnder (h : List Entry) (caller : Caller) (id : List ℕ) (t : Tree) (s : StoredStatement) : Type 0 where
  pub let_in : IsLetIn h caller
  pub formed : refused_form id (view t) ≡ None
  pub held : held_under id (state h).statements ≡ Some s

-- statements in form come together
pub record ComeTogether (h : List Entry) (caller : Caller) (trees : List Tree) : Type 0 where
  pub let_in : IsLetIn h caller
  pub formed : refused_batch trees ≡ None

-- the same statement is held under the id that this one gives itself
pub record Repeats (held : List StoredStatement) (t : Tree) : Type 0 where
  pub id : List ℕ
  pub first : StoredStatement
  pub own : own_id (view t) ≡ Some id
  pub there : held_under id held ≡ Some first
  pub equal : same (view first.received) (view t) ≡ true

-- another statement is held under the id that this one gives itself
pub record Contradicts (held : List StoredStatement) (t : Tree) (id : List ℕ) : Type 0 where
  pub first : StoredStatement
  pub own : own_id (view t) ≡ Some id
  pub there : held_under id held ≡ Some first
  pub other : same (view first.received) (view t) ≡ false

-- the occasion on which a history meets statements that come together
abbrev pub occasion_of : List Entry → Caller → List Tree → ℕ → Draw → Occasion
occasion_of h caller trees clock draw = occasion (state h) (next_entry (state h) caller (Post trees) clock draw)

-- the same statements, each with the id under which it goes
abbrev pub batch_with_ids : List Entry → List Tree → Draw → List WithId
batch_with_ids h trees draw = with_ids (supply_in (state h) (Post trees) draw) trees

-- There are fewer ids in use than can be made.
abbrev pub IsSmall : List Entry → List Tree → Type 0
IsSmall h trees = (used_in (state h)).count + length trees < WORDS

-- ---- callers

-- whoever is let in has an authority, under which its statements are kept
abbrev pub CallersHaveAuthority : Type 0
CallersHaveAuthority = (h : List Entry) (caller : Caller) → IsLetIn h caller → (authority : Authority)
    × (authority_of (state h) (who_in h caller) ≡ Some authority)

-- Whoever is let into an area is let in after every further entry.
abbrev pub CallersStayLetIn : Type 0
CallersStayLetIn = (h more : List Entry) (caller : Caller) (area : Area) → barred area (who_in h caller) ≡ None
    → barred area (who_in (h ++ more) caller) ≡ None

-- Who isn't let into an area is told so, whatever it asks there.
abbrev pub StrangersAreToldAlike : Type 0
StrangersAreToldAlike =
    (limit : ℕ) (h : List Entry) (caller : Caller) (c : Command) (clock : ℕ) (draw : Draw) (refusal : Refusal)
    → barred (command_area c) (who_in h caller) ≡ Some refusal
    → answer limit h caller c clock draw ≡ only (refused refusal)

-- ---- an id

-- no two statements have one id
abbrev pub NamesOne : Type 0
NamesOne = (h : List Entry) → IsTrue (are_distinct (ids_of (state h).statements))

-- what an id names, it names after every further entry
abbrev pub NamesForGood : Type 0
NamesForGood = (h more : List Entry) (id : List ℕ) (s : StoredStatement) → held_under id (state h).statements ≡ Some s
    → held_under id (state (h ++ more)).statements ≡ Some s

-- what is voided stays so
abbrev pub StaysVoided : Type 0
StaysVoided = (h more : List Entry) (s : StoredStatement) → is_voided (state h).statements s ≡ true
    → is_voided (state (h ++ more)).statements s ≡ true

-- ---- a statement again

-- the same one makes no entry
abbrev pub RepeatsAreTaken : Type 0
RepeatsAreTaken =
    (limit : ℕ) (h : List Entry) (caller : Caller) (id : List ℕ) (t : Tree) (s : StoredStatement) (clock : ℕ)
    (draw : Draw) → ComesUnder h caller id t s
    → same (view s.received) (view t) ≡ true → answer limit h caller (Write (Put id t)) clock draw ≡ only Same

-- another one is told the id, and makes none
abbrev pub ConflictsAreTold : Type 0
ConflictsAreTold =
    (limit : ℕ) (h : List Entry) (caller : Caller) (id : List ℕ) (t : Tree) (s : StoredStatement) (clock : ℕ)
    (draw : Draw) → ComesUnder h caller id t s
    → same (view s.received) (view t) ≡ false
    → answer limit h caller (Write (Put id t)) clock draw ≡ only (refused (Conflict id))

-- a batch of which each is held is told its ids, and makes no entry
abbrev pub RepeatedBatchesAreTaken : Type 0
RepeatedBatchesAreTaken =
    (limit : ℕ) (h : List Entry) (caller : Caller) (trees : List Tree) (clock : ℕ) (draw : Draw)
    → ComeTogether h caller trees → AllByRecursion (Repeats (state h).statements) trees
    → answer limit h caller (Write (Post trees)) clock draw ≡ only (Shown (ids_body (given_ids trees)) None)

-- the first that meets another statement is told, if none before it is refused
abbrev pub BatchConflictsAreTold : Type 0
BatchConflictsAreTold =
    (limit : ℕ) (h : List Entry) (caller : Caller) (before behind : List Tree) (t : Tree) (id : List ℕ)
    (clock : ℕ) (draw : Draw) → ComeTogether h caller (before ++ t ∷ behind)
    → let at = occasion_of h caller (before ++ t ∷ behind) clock draw in
    refused_in (state h) at (state h).statements (with_ids at.supply before) ≡ None
    → Contradicts (state h).statements t id
    → answer limit h caller (Write (Post (before ++ t ∷ behind))) clock draw ≡ only (refused (Conflict id))

-- ---- a batch

-- The ids of a batch are distinct, and a made one isn't used.
abbrev pub MadeIdsAreNew : Type 0
MadeIdsAreNew =
    (h : List Entry) (trees : List Tree) (draw : Draw) → IsSmall h trees → refused_batch trees ≡ None
    → IsTrue (are_distinct (ids_under (batch_with_ids h trees draw)))
    × AllByRecursion (λ (n : WithId). own_id (view n.tree) ≡ None → (used_in (state h)).is_used n.id ≡ false)
    (batch_with_ids h trees draw)

-- the id is that of no statement, of no registration and of no session, whether a launch made it or not
pub record IsUnusedId (st : State) (id : List ℕ) : Type 0 where
  pub statements : is_one_of (ids_of st.statements) id ≡ false
  pub registrations : is_one_of (registration_ids st.registrations) id ≡ false
  pub sessions : is_one_of (session_ids st.launches) id ≡ false
  pub made_sessions : is_one_of (made_session_ids st.made_sessions) id ≡ false

-- No id that a write of the desk can make is used, and no two of them are the same, as far as there are ids to be made.
-- Such writes bring none.
abbrev pub DeskIdsAreNew : Type 0
DeskIdsAreNew =
    (h : List Entry) (write : AWrite) (draw : Draw) (k : ℕ) → given_in write ≡ []
    → (used_in (state h)).count + k + 1 < WORDS
    → let supply = supply_in (state h) write draw in
    IsUnusedId (state h) (supply k) × ((j : ℕ) → j < k → supply j ≢ supply k)

-- it isn't refused
abbrev pub IsAccepted : Answer → Type 0
IsAccepted a = (r : Refusal) → a.said ≢ refused r

-- under its id this statement is held, or the same one
abbrev pub IsHeldSame : List StoredStatement → WithId → Type 0
IsHeldSame held n =
    (s : StoredStatement) × (held_under n.id held ≡ Some s) × (same (view s.received) (view n.tree) ≡ true)

-- After a PUT that isn't refused its statement is held, or the same one.
abbrev pub PutsAreHeld : Type 0
PutsAreHeld =
    (limit : ℕ) (h : List Entry) (caller : Caller) (id : List ℕ) (t : Tree) (clock : ℕ) (draw : Draw)
    → IsLawfulTree (view t)
    → let a = answer limit h caller (Write (Put id t)) clock draw in IsAccepted a
    → IsHeldSame (state (with_entry h a.entry)).statements (record { id = id; tree = t })

-- If a batch isn't refused, its caller is told its ids, and after it each of its statements, or the same one, is held
-- under its id.
abbrev pub BatchesAreWhole : Type 0
BatchesAreWhole =
    (limit : ℕ) (h : List Entry) (caller : Caller) (trees : List Tree) (clock : ℕ) (draw : Draw) → IsSmall h trees
    → AreLawfulTrees trees
    → let a = answer limit h caller (Write (Post trees)) clock draw in IsAccepted a
    → (a.said ≡ Shown (ids_body (ids_under (batch_with_ids h trees draw))) None)
    × AllByRecursion (IsHeldSame (state (with_entry h a.entry)).statements) (batch_with_ids h trees draw)

-- ---- pages

-- What is given from a position on by following the links until there is none: the positions of each page in turn. For
-- each page there are the statements that are held when it is asked for.
abbrev pub FollowsLinks : Query → Sight → ℕ → List (List StoredStatement) → Option ℕ → List ℕ → Type 0
FollowsLinks query sight n [] after given = ⊥
FollowsLinks query sight n (held ∷ later) after given =
    let page = page_behind query sight (take n held) after in
    MatchOption page.link (given ≡ page.positions)
    (λ last. (rest : List ℕ) × (given ≡ page.positions ++ rest) × FollowsLinks query sight n later (Some last) rest)

-- The links from a first page on give the whole list as of that page, whatever is accepted between the pages: `grown`
-- has for each page the entries that were accepted since the history h.
abbrev pub PagesGiveTheList : Type 0
PagesGiveTheList =
    (h : List Entry) (grown : List (List Entry)) (query : Query) (sight : Sight) (given : List ℕ) → 0 < query.page
    → FollowsLinks query sight (length (state h).statements) (map (λ more. (state (h ++ more)).statements) grown) None
    given
    → given ≡ listing query sight (state h).statements

-- and each position once
abbrev pub PositionsComeOnce : Type 0
PositionsComeOnce = (query : Query) (sight : Sight) (statements : List StoredStatement)
    → IsDistinct (λ j k. j == k) (listing query sight statements)

-- a link leads on: to what follows it, within the list
abbrev pub LinksGoOn : Type 0
LinksGoOn =
    (query : Query) (sight : Sight) (statements : List StoredStatement) (after : Option ℕ) (last : ℕ) → 0 < query.page
    → (page_behind query sight statements after).link ≡ Some last
    → IsTrue (is_behind query.ascending after last) × (last < length statements)

-- There is a link exactly if something follows the page; without one the page has all that was left.
abbrev pub LinksWhereMoreComes : Type 0
LinksWhereMoreComes =
    (query : Query) (sight : Sight) (statements : List StoredStatement) (after : Option ℕ) → 0 < query.page
    → let page = page_behind query sight statements after in
    MatchOption page.link (page.positions ≡ listing_behind query sight statements after)
    (λ last. listing_behind query sight statements (Some last) ≢ [])

-- Where more pages may be asked for than statements are listed, the way ends, and gives the list.
abbrev pub PagesEnd : Type 0
PagesEnd =
    (h : List Entry) (grown : List (List Entry)) (query : Query) (sight : Sight) → 0 < query.page
    → length (listing query sight (state h).statements) < length grown
    → FollowsLinks query sight (length (state h).statements) (map (λ more. (state (h ++ more)).statements) grown) None
    (listing query sight (state h).statements)

-- ---- what callers are told of them

-- what a caller of a history sees
abbrev pub sight_in : List Entry → Caller → Sight
sight_in h caller = sight_of (state h) (who_in h caller)

-- who asks for a list gets its first page, of all statements
abbrev pub FirstPagesAreTold : Type 0
FirstPagesAreTold =
    (limit : ℕ) (h : List Entry) (caller : Caller) (query : Query) (clock : ℕ) (draw : Draw) → IsLetIn h caller
    → let all = (state h).statements in
    answer limit h caller (Read (read.Statements (Many query))) clock draw
    ≡ only (Shown (page_body query (length all) all (page_behind query (sight_in h caller) all None))
    (Some (state h).last))

-- A link is told the same page for ever, as the history h has it, whatever is accepted after h. A session's
-- token tells its index, and a store counts its entries in 64 bits.
abbrev pub LinksStay : Type 0
LinksStay =
    (limit : ℕ) (h more : List Entry) (caller : Caller) (link : MoreLink) (clock : ℕ) (draw : Draw) → IsLegal limit h
    → (acts_in_session (who_in h caller) ≡ true → length (h ++ more) < 2 ^ 64) → IsLetIn h caller
    → link.asof ≤ length (state h).statements
    → let all = (state h).statements in
    answer limit (h ++ more) caller (Read (read.More link)) clock draw
    ≡ only (Shown
    (page_body link.query link.asof all (page_behind link.query (sight_in h caller) (take link.asof all)
    (Some link.after))) (Some (state (h ++ more)).last))
