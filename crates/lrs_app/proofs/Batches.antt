-- What the store says to a batch of generated statements: it is refused only since another statement is held under the id
-- of one of them, or since the store has no room.
use Rattle.std.proofs.Common.{◌≡◌, ◌<◌, ◌≤◌, ◌^◌, ◌&&◌, ℕ, List, [], ◌∷◌, map, length, Option, Some, None, Bool, true, false, not, nat_lt, codes, refl, sym, ap, ◌∙◌, subst, arith}
use Rattle.std.specs.Prelude.{if◌then◌else◌, option_map}
use Rattle.std.specs.List.{AllByRecursion, list_any}
use Rattle.std.specs.Option.{option_or}
use Rattle.std.proofs.lemmas.Grind.{common_steps}
use Rattle.cmi5_launch.specs.Names.{cmi5_category}
use Rattle.cmi5_session.specs.Own.{is_cmi5_defined}
use Rattle.cmi5_session.specs.Rules.{broken_outside}
use Rattle.lrs_command.specs.declared.who.Who.TheVariants as who
use Rattle.lrs_generator.specs.Generated.{batch, batch_count, statement_json}
use Rattle.lrs_generator.specs.declared.generator.TheConstants.{BATCH}
use Rattle.lrs_generator.proofs.Lawful.{distinct_batch, each_of_batch, few_trees, no_context_activity, not_too_long, unbroken}
use Rattle.lrs_hall.specs.LrsHistoryEffects.{effect}
use Rattle.lrs_hall.specs.LrsHistoryHistory.{Answer, answer_of, end_offset, need, next_entry, outcome_by, refused, state}
use Rattle.lrs_hall.specs.LrsHistoryOccasions.{Occasion, occasion}
use Rattle.lrs_hall.specs.LrsHistoryRefusals.{before_next, broken_in, forbidden, refused_batch, refused_in, refused_over, refused_under, refusal, told_forbidden}
use Rattle.lrs_hall.specs.LrsHistoryAnswers.{write_said}
use Rattle.lrs_hall.specs.LrsHistoryRoomProofs.{kept_answer, no_room}
use Rattle.lrs_ids.specs.Choices.{first_some, when}
use Rattle.lrs_ids.specs.Ids.{Supply, are_distinct}
use Rattle.lrs_json.specs.Fits.{IsReadable}
use Rattle.lrs_json.specs.Json.{Json}
use Rattle.lrs_json.specs.View.{view}
use Rattle.lrs_json.specs.declared.limits.TheConstants.{DEPTH}
use Rattle.lrs_json.specs.declared.tree.Tree.{Tree}
use Rattle.lrs_names.specs.declared.draw.Draw.{Draw}
use Rattle.lrs_parts.specs.State.{State, changes_nothing}
use Rattle.lrs_record.specs.Entries.{AreLawfulTrees}
use Rattle.lrs_record.specs.declared.entry.Caller.TheVariants.{Operator}
use Rattle.lrs_record.specs.declared.entry.Entry.{Entry}
use Rattle.lrs_record.specs.declared.entry.Write.TheVariants.{Post}
use Rattle.lrs_replies.specs.declared.answered.Answered.{Answered}
use Rattle.lrs_replies.specs.declared.answered.Answered.TheVariants as said
use Rattle.lrs_replies.specs.declared.answered.Refusal.{Refusal}
use Rattle.lrs_replies.specs.declared.answered.Refusal.TheVariants.{Conflict}
use Rattle.xapi_alike.specs.Same.{same}
use Rattle.xapi_index.specs.Batches.{WithId, given_ids, supply_behind, with_ids}
use Rattle.xapi_statement.specs.Statements.{held_under}
use Rattle.xapi_rules.specs.Rules.{broken_rule, is_voiding}
use Rattle.xapi_statement.specs.Statement.{is_too_long, own_id}
use Rattle.xapi_statement.specs.Stored.{StoredStatement}
use Rattle.lrs_app.specs.Load.{GoesOnLoading, post_answer}
use Rattle.lrs_app.specs.LoadSteps.{IsMet, SaysOfBatch}
use Rattle.lrs_app.proofs.Readable.{readable}

-- ---- sound statements

-- nothing of a statement itself keeps it from being taken
pub record IsSoundStatement (j : Json) : Type 0 where
  short : is_too_long j ≡ false
  fits_rules : broken_rule j ≡ None
  allows : broken_outside true j ≡ None
  reads : IsReadable DEPTH j

-- what cmi5 doesn't define an admin may say
may_say : (defined voids : Bool) → defined ≡ false → first_some {A = ℕ} (when defined 1 ∷ when (voids && not true) 2 ∷ []) ≡ None
may_say defined true none = rw none refl
may_say defined false none = rw none refl

sound_at : (seed i : ℕ) → IsSoundStatement (statement_json seed i)
sound_at seed i = record {
  short = not_too_long seed i;
  fits_rules = unbroken seed i;
  allows = may_say (is_cmi5_defined (statement_json seed i)) (is_voiding (statement_json seed i)) (no_context_activity (codes "category") cmi5_category seed i);
  reads = readable seed i;
}

-- such are all of these
abbrev AreSoundStatements : List Tree → Type 0
AreSoundStatements trees = AllByRecursion (λ (t : Tree). IsSoundStatement (view t)) trees

none_long : (trees : List Tree) → AreSoundStatements trees → list_any (λ (t : Tree). is_too_long (view t)) trees ≡ false
none_long [] all = refl
none_long (t ∷ ts) all = rw all.0.short (none_long ts all.1)

none_broken : (trees : List Tree) → AreSoundStatements trees → broken_in trees ≡ None
none_broken [] all = refl
none_broken (t ∷ ts) all = rw all.0.fits_rules (none_broken ts all.1)

all_allowed : (trees : List Tree) → AreSoundStatements trees → AllByRecursion (λ (t : Tree). broken_outside true (view t) ≡ None) trees
all_allowed [] all = tt
all_allowed (t ∷ ts) all = (all.0.allows, all_allowed ts all.1)

all_read : (trees : List Tree) → AreSoundStatements trees → AreLawfulTrees trees
all_read [] all = tt
all_read (t ∷ ts) all = (all.0.reads, all_read ts all.1)

-- ---- why a post is refused

abbrev MayMeet : Option Refusal → Type 0
MayMeet None = Unit {0}
MayMeet (Some r) = IsMet r

may_or : (o p : Option Refusal) → MayMeet o → MayMeet p → MayMeet (option_or o p)
may_or None p first second = second
may_or (Some r) p first second = first

may_when : (b : Bool) (r : Refusal) → IsMet r → MayMeet (when b r)
may_when true r may = may
may_when false r may = tt

module _ (st : State) where
  may_over : (new : Option Refusal) (id : List ℕ) (j : Json) (held : Option StoredStatement) → new ≡ None → MayMeet (refused_over new id j held)
  may_over new id j None none = subst MayMeet (sym none) tt
  may_over new id j (Some held) none = may_when (not (same (view held.received) j)) (Conflict id) tt

  may_under : (new : Option Refusal) (own : Option (List ℕ)) (j : Json) → new ≡ None → MayMeet (refused_under st new own j)
  may_under new None j none = subst MayMeet (sym none) tt
  may_under new (Some id) j none = may_over new id j (held_under id st.statements) none

  -- an admin may say what cmi5 doesn't define
  not_forbidden : (at : Occasion) (before : List StoredStatement) (j : Json) → at.by ≡ who.Admin → broken_outside true j ≡ None → forbidden st at.by before j ≡ None
  not_forbidden at before j admin none = ap (λ by. forbidden st by before j) admin ∙ ap told_forbidden none

  may_in : (at : Occasion) (before : List StoredStatement) (ns : List WithId) → at.by ≡ who.Admin
      → AllByRecursion (λ (n : WithId). broken_outside true (view n.tree) ≡ None) ns → MayMeet (refused_in st at before ns)
  may_in at before [] admin all = tt
  may_in at before (n ∷ ns) admin all =
      may_or (refused_under st (forbidden st at.by before (view n.tree)) (own_id (view n.tree)) (view n.tree)) (refused_in st at (before_next st at before n) ns)
      (may_under (forbidden st at.by before (view n.tree)) (own_id (view n.tree)) (view n.tree) (not_forbidden at before (view n.tree) admin all.0))
      (may_in at (before_next st at before n) ns admin all.1)

with_all : (supply : Supply) (trees : List Tree) → AllByRecursion (λ (t : Tree). broken_outside true (view t) ≡ None) trees
    → AllByRecursion (λ (n : WithId). broken_outside true (view n.tree) ≡ None) (with_ids supply trees)
with_all supply [] all = tt
with_all supply (t ∷ ts) all = (all.0, with_all (supply_behind supply (own_id (view t))) ts all.1)

few_enough : (n : ℕ) → n ≤ BATCH → nat_lt 500 n ≡ false
few_enough n few = grind (arith, common_steps)

sound_form : (trees : List Tree) → length trees ≤ BATCH → AreSoundStatements trees → are_distinct (given_ids trees) ≡ true → refused_batch trees ≡ None
sound_form trees few sound distinct = rw (few_enough (length trees) few, none_long trees sound, none_broken trees sound, distinct) refl

-- ---- what is said

calm_says : (s : Answered) (entry : Option Entry) → GoesOnLoading s → SaysOfBatch s entry
calm_says said.Kept entry calm = tt
calm_says said.Same entry calm = tt
calm_says (said.Shown text through) entry calm = tt
calm_says (said.Document media bytes) entry calm = tt
calm_says (said.Refused r) entry calm = absurd calm

abbrev Says : Answer → Type 0
Says a = SaysOfBatch a.said a.entry

by_refusal : (o : Option Refusal) (nothing : Bool) (e : Entry) (s : Answered) (limit offset : ℕ) → MayMeet o → GoesOnLoading s
    → Says (answer_of limit offset (outcome_by (option_or (option_map refused o) (when nothing s)) e s))
by_refusal (Some r) nothing e s limit offset may calm = (may, refl)
by_refusal None true e s limit offset may calm = calm_says s None calm
by_refusal None false e s limit offset may calm = by_room (nat_lt limit (need offset e))
  where
    by_room : (b : Bool) → Says (if b then no_room limit offset e else kept_answer s e)
    by_room true = (tt, refl)
    by_room false = calm_says s (Some e) calm

-- sound statements of ids of their own, posted by the operator
pub sound_says : (limit : ℕ) (h : List Entry) (clock : ℕ) (draw : Draw) (trees : List Tree) → length trees ≤ BATCH → AreSoundStatements trees
    → are_distinct (given_ids trees) ≡ true → Says (post_answer limit h clock draw trees)
sound_says limit h clock draw trees few sound distinct =
    let st = state h in
    let e : Entry = next_entry st Operator (Post trees) clock draw in
    let at : Occasion = occasion st e in
    let met : MayMeet (refused_in st at st.statements (with_ids at.supply trees)) =
    may_in st at st.statements (with_ids at.supply trees) refl (with_all at.supply trees (all_allowed trees sound)) in
    by_refusal (refusal st e) (changes_nothing (effect st e)) e (write_said (effect st e)) limit (end_offset limit h)
    (may_or (refused_batch trees) (option_or (refused_in st at st.statements (with_ids at.supply trees)) None)
    (subst MayMeet (sym (sound_form trees few sound distinct)) tt)
    (may_or (refused_in st at st.statements (with_ids at.supply trees)) None met tt)) tt

-- ---- generated statements

module _ (seed n j : ℕ) (wide : seed < 2 ^ 64) (many : n < 2 ^ 32) (left : j < batch_count n) (trees : List Tree) (made : map view trees ≡ batch seed n j) where
  batch_sound : AreSoundStatements trees
  batch_sound = each_of_batch IsSoundStatement seed n j trees left (λ i less. sound_at seed i) made

  -- what the store says to a batch of generated statements
  pub batch_says : (limit : ℕ) (h : List Entry) (clock : ℕ) (draw : Draw) → SaysOfBatch (post_answer limit h clock draw trees).said (post_answer limit h clock draw trees).entry
  batch_says limit h clock draw = sound_says limit h clock draw trees (few_trees seed n j trees made) batch_sound (distinct_batch seed n j trees wide many left made)

  pub batch_lawful : AreLawfulTrees trees
  batch_lawful = all_read trees batch_sound
