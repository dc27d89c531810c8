-- What statements say of nodes, one statement after another.
use Rattle.std.proofs.Common.{◌≡◌, ◌∙◌, ◌&&◌, ◌||◌, ◌==◌, ◌+◌, ◌-◌, ◌^◌, ◌<◌, ◌≤◌, ℕ, Bool, true, false, not, List, [], ◌∷◌, ◌++◌, length, map, drop, refl, sym, ap, subst, arith, ⊎_elim}
use Rattle.std.proofs.Math.Bool.{and-true, or-false, or_assoc}
use Rattle.std.specs.Prelude.{if◌then◌else◌, replicate, slice_set}
use Rattle.std.specs.List.{range_with_len}
use Rattle.std.specs.Str.{bytes_eq}
use Rattle.std.proofs.lemmas.Bool.{cases_eq, eq-eqb, ne_eqb}
use Rattle.std.proofs.lemmas.List.{drop_all, get_or-replicate, get_or-set_other, get_or-set_same, length-replicate}
use Rattle.std.proofs.lemmas.List.Folds.{list_any-append}
use Rattle.std.proofs.lemmas.List.FromFn.{fill_by_all}
use Rattle.cmi5_session.specs.Cmi5LaunchNames.{completed, passed, satisfied, waived}
use Rattle.cmi5_session.specs.Own.{is_cmi5_defined}
use Rattle.cmi5_verdict.specs.Nodes.{SeenEnrolment, activity_of_node}
use Rattle.cmi5_verdict.specs.Said.{counts_for, either, said_among, said_by, said_in, said_of, said_with, unsaid}
use Rattle.cmi5_verdict.specs.declared.said.Said.{Said}
use Rattle.lrs_json.specs.View.{view}
use Rattle.cmi5_session.specs.XapiStatementStatements.{is_that_id, is_voided}
use Rattle.cmi5_session.specs.XapiStatementStatement.{activity_of, registration_of, verb_of}
use Rattle.cmi5_session.specs.XapiStatementStored.{StoredStatement}

-- ---- what one of two says

abbrev made : Bool → Bool → Bool → Bool → Said
made w c p s = record { waived = w; completed = c; passed = p; satisfied = s }

pub same_said : (w c p s w2 c2 p2 s2 : Bool) → w ≡ w2 → c ≡ c2 → p ≡ p2 → s ≡ s2 → made w c p s ≡ made w2 c2 p2 s2
same_said w c p s w2 c2 p2 s2 e f g h =
    ap (λ b. made b c p s) e ∙ (ap (λ b. made w2 b p s) f ∙ (ap (λ b. made w2 c2 b s) g ∙ ap (λ b. made w2 c2 p2 b) h))

pub either_unsaid : (a : Said) → either a unsaid ≡ a
unfolding either
either_unsaid a =
    same_said (a.waived || false) (a.completed || false) (a.passed || false) (a.satisfied || false) a.waived a.completed a.passed a.satisfied
    (or-false a.waived) (or-false a.completed) (or-false a.passed) (or-false a.satisfied)

pub unsaid_either : (a : Said) → either unsaid a ≡ a
unfolding either
unsaid_either a = same_said a.waived a.completed a.passed a.satisfied a.waived a.completed a.passed a.satisfied refl refl refl refl

pub either_assoc : (a b c : Said) → either (either a b) c ≡ either a (either b c)
unfolding either
either_assoc a b c =
    same_said _ _ _ _ _ _ _ _ (or_assoc a.waived b.waived c.waived) (or_assoc a.completed b.completed c.completed) (or_assoc a.passed b.passed c.passed)
    (or_assoc a.satisfied b.satisfied c.satisfied)

-- ---- what some of all say of a node

module _ (e : SeenEnrolment) (all : List StoredStatement) (index : ℕ) where
  pub among_none : said_among e all index [] ≡ unsaid
  unfolding said_among
  among_none = refl

  pub among_more : (x : StoredStatement) (xs : List StoredStatement) → said_among e all index (x ∷ xs) ≡ either (said_by e all index x) (said_among e all index xs)
  unfolding either said_among said_by
  among_more x xs = refl

  pub among_both : (xs ys : List StoredStatement) → said_among e all index (xs ++ ys) ≡ either (said_among e all index xs) (said_among e all index ys)
  unfolding either said_among
  among_both xs ys =
      same_said _ _ _ _ _ _ _ _ (list_any-append (counts_for e all false waived index) xs ys) (list_any-append (counts_for e all false completed index) xs ys)
      (list_any-append (counts_for e all false passed index) xs ys) (list_any-append (counts_for e all true satisfied index) xs ys)

  -- what is noted so far, and what the rest of the list says
  pub said_next : (xs : List StoredStatement) (i : ℕ) (x : StoredStatement) (before now whole : Said) → drop i xs ≡ x ∷ drop (i + 1) xs → now ≡ either before (said_by e all index x)
      → either before (said_among e all index (drop i xs)) ≡ whole → either now (said_among e all index (drop (i + 1) xs)) ≡ whole
  said_next xs i x before now whole next is so_far =
      ap (λ s. either s (said_among e all index (drop (i + 1) xs))) is ∙ (either_assoc before (said_by e all index x) (said_among e all index (drop (i + 1) xs))
      ∙ (ap (λ s. either before s) (sym (ap (λ ys. said_among e all index ys) next ∙ among_more x (drop (i + 1) xs))) ∙ so_far))

  pub said_end : (xs : List StoredStatement) (i : ℕ) (now whole : Said) → length xs ≤ i → either now (said_among e all index (drop i xs)) ≡ whole → now ≡ whole
  said_end xs i now whole end so_far =
      sym (ap (λ ys. either now (said_among e all index ys)) (drop_all i xs end) ∙ (ap (λ s. either now s) among_none ∙ either_unsaid now)) ∙ so_far

-- ---- what is said of one node more

added : (said : List Said) (here index : ℕ) (more : Said) → index < length said → said_of (slice_set said here (either (said_of said here) more)) index ≡ either (said_of said index) (if here == index then more else unsaid)
added said here index more lt = ⊎_elim there elsewhere (cases_eq here index)
  where
    there : here ≡ index → said_of (slice_set said here (either (said_of said here) more)) index ≡ either (said_of said index) (if here == index then more else unsaid)
    there e =
        ap (λ k. said_of (slice_set said k (either (said_of said k) more)) index) e ∙ (get_or-set_same said index (either (said_of said index) more) unsaid lt
        ∙ sym (ap (λ b. either (said_of said index) (if b then more else unsaid)) (eq-eqb here index e)))

    elsewhere : (here ≡ index → ⊥) → said_of (slice_set said here (either (said_of said here) more)) index ≡ either (said_of said index) (if here == index then more else unsaid)
    elsewhere never =
        get_or-set_other said here index (either (said_of said here) more) unsaid (λ e. never (sym e))
        ∙ sym (ap (λ b. either (said_of said index) (if b then more else unsaid)) (ne_eqb here index never) ∙ either_unsaid (said_of said index))

-- where those from the first on are told of

same_index : (first here k : ℕ) → first ≤ here → ((here - first) == k) ≡ (here == (first + k))
same_index first here k le = ⊎_elim there elsewhere (cases_eq (here - first) k)
  where
    there : here - first ≡ k → ((here - first) == k) ≡ (here == (first + k))
    there e = eq-eqb (here - first) k e ∙ sym (eq-eqb here (first + k) (omega arith))

    elsewhere : (here - first ≡ k → ⊥) → ((here - first) == k) ≡ (here == (first + k))
    elsewhere never = ne_eqb (here - first) k never ∙ sym (ne_eqb here (first + k) (λ e. never (omega arith)))

pub added_from : (said : List Said) (first here k : ℕ) (more : Said) → k < length said → first ≤ here
    → said_of (slice_set said (here - first) (either (said_of said (here - first)) more)) k ≡ either (said_of said k) (if here == (first + k) then more else unsaid)
added_from said first here k more lt le =
    added said (here - first) k more lt ∙ ap (λ b. either (said_of said k) (if b then more else unsaid)) (same_index first here k le)

pub before_first : (first here k : ℕ) → here < first → (here == (first + k)) ≡ false
before_first first here k lt = ne_eqb here (first + k) (λ e. omega arith)

-- ---- what one statement says

-- by its verb, and whether it is in the registration, is defined and is about the node
pub flag : (v r d a : Bool) → ((v && d) && r) && a ≡ (if (r && d) && a then v else false)
flag true true true true = refl
flag true true true false = refl
flag true true false a = refl
flag true false true a = refl
flag true false false a = refl
flag false true true true = refl
flag false true true false = refl
flag false true false a = refl
flag false false d a = refl

if_both : (here v w : Bool) → (if here then v && w else false) ≡ (if here then v else false) && w
if_both true v w = refl
if_both false v w = refl

-- and whether it stands
standing : (v w r d a : Bool) → (if (r && d) && a then v && w else false) ≡ ((v && d) && r) && a && w
standing v w r d a = if_both ((r && d) && a) v w ∙ ap (λ b. b && w) (sym (flag v r d a))

parts : (here : Bool) (verb : List ℕ) (voided : Bool) → (if here then said_with verb voided else unsaid)
    ≡ made (if here then bytes_eq verb waived && not voided else false) (if here then bytes_eq verb completed && not voided else false) (if here then bytes_eq verb passed && not voided else false) (if here then bytes_eq verb satisfied else false)
unfolding said_with
parts true verb voided = refl
parts false verb voided = refl

pub spoken : (e : SeenEnrolment) (all : List StoredStatement) (index : ℕ) (s : StoredStatement) (here : Bool)
    → here ≡ is_that_id e.registration (registration_of (view s.received)) && is_cmi5_defined (view s.received) && is_that_id (activity_of_node e index) (activity_of (view s.received))
    → (if here then said_with (verb_of (view s.received)) (is_voided all s) else unsaid) ≡ said_by e all index s
unfolding said_by
spoken e all index s here is =
    let verb : List ℕ = verb_of (view s.received) in
    let kept : Bool = not (is_voided all s) in
    let r : Bool = is_that_id e.registration (registration_of (view s.received)) in
    let d : Bool = is_cmi5_defined (view s.received) in
    let a : Bool = is_that_id (activity_of_node e index) (activity_of (view s.received)) in
    ap (λ b. if b then said_with verb (is_voided all s) else unsaid) is ∙ (parts ((r && d) && a) verb (is_voided all s)
    ∙ same_said _ _ _ _ _ _ _ _ (standing (bytes_eq verb waived) kept r d a) (standing (bytes_eq verb completed) kept r d a) (standing (bytes_eq verb passed) kept r d a)
    (sym (flag (bytes_eq verb satisfied) r d a) ∙ sym (and-true (((bytes_eq verb satisfied && d) && r) && a))))

-- ---- what all say of each node

pub said_from_none : (e : SeenEnrolment) (all : List StoredStatement) (n : ℕ) (old new : List Said) → n ≤ 2 ^ 64 → old ≡ replicate n unsaid → length new ≡ length old
    → ((p : ℕ) → p < length old → p < 2 ^ 64 → said_of new p ≡ either (said_of old p) (said_in e all p)) → new ≡ map (said_in e all) (range_with_len 0 n)
said_from_none e all n old new few full same noted =
    let long : length old ≡ n = ap length full ∙ length-replicate n unsaid in
    fill_by_all (said_in e all) new n unsaid (same ∙ long)
    (λ p lt. let none : said_of old p ≡ unsaid = ap (λ ss. said_of ss p) full ∙ get_or-replicate n p unsaid unsaid lt in
    noted p (subst (λ k. p < k) (sym long) lt) (omega arith) ∙ (ap (λ s. either s (said_in e all p)) none ∙ unsaid_either (said_in e all p)))
