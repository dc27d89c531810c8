-- What isn't refused for its form is judged: its statements or its course break no rule, who is enrolled is a learner.
use Rattle.std.proofs.Common.{◌≡◌, ℕ, List, [], ◌∷◌, refl, Option, Some, None, Bool, true, false, not}
use Rattle.std.specs.List.{AllByRecursion}
use Rattle.std.specs.Prelude.{option_map}
use Rattle.std.specs.Option.{option_or}
use Rattle.cmi5_course.specs.Rules as course
use Rattle.lrs_rules.specs.declared.rule.Rule.TheVariants as rule
use Rattle.lrs_refusals.specs.Judged.{IsJudged, IsJudgedTree}
use Rattle.lrs_made.specs.LrsHistoryRefusals.{bad_form, broken, broken_in, is_too_large, other_id, refused_actor, refused_batch, refused_course, refused_edition, refused_form}
use Rattle.lrs_json.specs.Json.{Json}
use Rattle.lrs_json.specs.View.{view}
use Rattle.lrs_json.specs.declared.tree.Tree.{Tree}
use Rattle.lrs_record.specs.Entries.{IsLawfulWrite}
use Rattle.lrs_record.specs.declared.entry.Write.{Write}
use Rattle.lrs_record.specs.declared.entry.Write.TheVariants.{Found, Put, Post, Enrol}
use Rattle.lrs_record.specs.declared.entry.Write.TheVariants as write
use Rattle.lrs_replies.specs.declared.answered.Refusal.{Refusal}
use Rattle.lrs_replies.specs.declared.answered.Refusal.TheVariants.{Broken, TooLong}
use Rattle.xapi_index.specs.Batches.{given_ids}
use Rattle.lrs_made.specs.LrsStateLearners.{is_learner}
use Rattle.lrs_ids.specs.Choices.{first_some, when}
use Rattle.lrs_ids.specs.Ids.{are_distinct}
use Rattle.xapi_rules.specs.Rules.{broken_rule}
use Rattle.xapi_statement.specs.Statement.{is_statement, is_too_long, own_id}

pub judged_tree : (t : Tree) → broken_rule (view t) ≡ None → IsJudgedTree t
unfolding is_statement
judged_tree t whole = rw whole refl

-- ---- a statement under an id

formed : (id : List ℕ) (t : Tree) → refused_form id (view t) ≡ None → IsJudgedTree t
formed id t is = by_length (is_too_long (view t)) is
  where
    by_rule : (o : Option ℕ) → broken_rule (view t) ≡ o → first_some (broken o ∷ other_id id (own_id (view t)) ∷ []) ≡ None → IsJudgedTree t
    by_rule None whole is = judged_tree t whole
    by_rule (Some n) whole is = cc is

    by_length : (b : Bool) → first_some (when b TooLong ∷ broken (broken_rule (view t)) ∷ other_id id (own_id (view t)) ∷ []) ≡ None → IsJudgedTree t
    by_length true is = cc is
    by_length false is = by_rule (broken_rule (view t)) refl is

-- ---- statements that come together

each_judged : (ts : List Tree) → broken_in ts ≡ None → AllByRecursion IsJudgedTree ts
each_judged [] whole = tt
each_judged (t ∷ ts) whole = by_rule (broken_rule (view t)) refl whole (λ behind. each_judged ts behind)
  where
    by_rule : (o : Option ℕ) → broken_rule (view t) ≡ o → option_or o (broken_in ts) ≡ None → (broken_in ts ≡ None → AllByRecursion IsJudgedTree ts)
        → IsJudgedTree t × AllByRecursion IsJudgedTree ts
    by_rule None is rest more = (judged_tree t is, more rest)
    by_rule (Some n) is rest more = cc rest

formed_batch : (ts : List Tree) → refused_batch ts ≡ None → AllByRecursion IsJudgedTree ts
formed_batch ts is = by_size (is_too_large ts) is
  where
    by_rule : (o : Option ℕ) → broken_in ts ≡ o → first_some (broken o ∷ when (not (are_distinct (given_ids ts))) (Broken (rule.B 9)) ∷ []) ≡ None → AllByRecursion IsJudgedTree ts
    by_rule None whole is = each_judged ts whole
    by_rule (Some n) whole is = cc is

    by_size : (b : Bool) → first_some (when b TooLong ∷ broken (broken_in ts) ∷ when (not (are_distinct (given_ids ts))) (Broken (rule.B 9)) ∷ []) ≡ None → AllByRecursion IsJudgedTree ts
    by_size true is = cc is
    by_size false is = by_rule (broken_in ts) refl is

-- ---- a course, and who is enrolled

formed_course : (j : Json) → refused_course j ≡ None → course.broken_rule j ≡ None
formed_course j is = by_rule (course.broken_rule j) is
  where
    by_rule : (o : Option ℕ) → option_map (λ n. Broken (rule.K n)) o ≡ None → o ≡ None
    by_rule None is = refl
    by_rule (Some n) is = cc is

formed_actor : (b : Bool) → when (not b) (Broken (rule.B 3)) ≡ None → b ≡ true
formed_actor true is = refl
formed_actor false is = cc is

first_none : (o p : Option Refusal) → option_or o p ≡ None → o ≡ None
first_none None p is = refl
first_none (Some r) p is = cc is

-- ---- the whole

pub judged_form : (w : Write) → IsLawfulWrite w → bad_form w ≡ None → IsJudged w
judged_form (Found admin base) lawful none = cc none
judged_form (Put id statement) lawful none = formed id statement none
judged_form (Post statements) lawful none = formed_batch statements none
judged_form (write.Course tree) lawful none = (lawful.0.0, formed_course (view tree) none)
judged_form (Enrol course actor edition) lawful none =
    formed_actor (is_learner actor) (first_none (refused_actor actor) (refused_edition edition) none)
judged_form other lawful none = tt
