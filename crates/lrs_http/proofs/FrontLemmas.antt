-- From a look at the bytes that have come to what stands at the front of a whole stream.
use Rattle.std.proofs.Common.{◌≡◌, ℕ, ◌+◌, ◌-◌, ◌<◌, ◌≤◌, Bool, true, false, List, [], ◌++◌, length, take, drop, refl, sym, ap, ◌∙◌, subst, arith, append_assoc, append-nil, ⊎_elim, length-append, Err}
use Rattle.std.specs.Prelude.{nat_lt, MatchBool, map}
use Rattle.std.specs.List.{list_all}
use Rattle.std.proofs.lemmas.Bool.{cases_lt, false≢true, and_parts}
use Rattle.std.proofs.lemmas.Bool.Decides.{nat_tests}
use Rattle.std.proofs.lemmas.List.{take_all, take-append-le, take-append-drop, drop_at, length-take, length-map}
use Rattle.std.proofs.lemmas.List.Folds.{list_all-append}
use Rattle.std.proofs.Math.Seq.{take-append-add}
use Rattle.httparse.specs.declared.spans.HeaderSpan.{HeaderSpan}
use Rattle.httparse.specs.declared.spans.RequestSpans.{RequestSpans}
use Rattle.httparse.specs.Grammar.{RequestHead, print_request, ReadsRequest, HasNoRequest, MayBecomeRequest}
use Rattle.httparse.specs.Spans.{IsRequestWithin, IsRequestAt, name_and_value, header_bytes}
use Rattle.httparse.proofs.GrammarLemmas.{ReadsRequest-append}
use Rattle.lrs_http.specs.declared.request.RequestRefused.TheVariants as refused
use Rattle.lrs_http.specs.Head.{parts_of, announced}
use Rattle.lrs_http.specs.Stream.{stands, blank, wrong, long, short, IsFront, IsItem, window, is_line_end, with_body}
use Rattle.lrs_http.specs.Prospect.{IsProspect, IsHeadAt, IsJudged, parts_at, refusal_for}
use Rattle.lrs_http.specs.declared.heads.Prospect.{Prospect}
use Rattle.lrs_http.specs.declared.heads.TheConstants.{LONGEST_HEAD, MOST_FIELDS}

-- the front of a text is the front of its front, and something of what follows
front_more : {A : Type 0} (n : ℕ) (xs ys : List A) → (k : ℕ) × (take n (xs ++ ys) ≡ take n xs ++ take k ys)
front_more {A} n xs ys = ⊎_elim
    (λ small.
    let whole : take n xs ≡ xs = take_all n xs (omega arith) in
    let split : n ≡ length xs + (n - length xs) = omega arith in
    (n - length xs, ap (λ m. take m (xs ++ ys)) split ∙ take-append-add xs ys (n - length xs) ∙ ap (λ l. l ++ take (n - length xs) ys) (sym whole)))
    (λ large. (0, take-append-le n xs ys large ∙ sym (append-nil (take n xs))))
    (cases_lt (length xs) n)

-- a head in the window stands at the front of the stream
pub head_front : (bytes more : List ℕ) (head : RequestHead) (len : ℕ) → ReadsRequest (window bytes) head (drop len (window bytes))
    → len ≡ length (print_request head) → IsFront (bytes ++ more) (stands head (drop len (bytes ++ more)))
head_front bytes more head len reads is =
    let behind = drop len (window bytes) ++ (drop LONGEST_HEAD bytes ++ more) in
    let all : window bytes ++ (drop LONGEST_HEAD bytes ++ more) ≡ bytes ++ more =
    sym (append_assoc (window bytes) (drop LONGEST_HEAD bytes) more) ∙ ap (λ l. l ++ more) (take-append-drop LONGEST_HEAD bytes) in
    let whole : ReadsRequest (bytes ++ more) head behind = (reads.0, sym all ∙ (ReadsRequest-append (window bytes) head (drop len (window bytes)) (drop LONGEST_HEAD bytes ++ more) reads).1) in
    let rest : drop len (bytes ++ more) ≡ behind = ap (drop len) whole.1 ∙ drop_at (print_request head) behind len (sym is) in
    let short = length-take LONGEST_HEAD bytes in
    let sum : length (window bytes) ≡ length (print_request head) + length (drop len (window bytes)) = ap (λ (l : List ℕ). length l) reads.1 ∙ length-append (print_request head) (drop len (window bytes)) in
    ((reads.0, whole.1 ∙ ap (λ l. print_request head ++ l) (sym rest)), omega arith)

pub head_at : (bytes : List ℕ) (fields : List HeaderSpan) (spans : RequestSpans) (head : RequestHead) → length fields ≤ MOST_FIELDS
    → IsRequestWithin (window bytes) fields spans → IsRequestAt (window bytes) fields spans head → IsHeadAt bytes fields spans
unfolding parts_at parts_of
head_at bytes fields spans head room within at = record {
  within = within;
  head = head;
  few = few;
  parts = λ i. record { method = at.method i; target = at.path i; minor = at.version i; fields = at.fields i };
  front = λ more. head_front bytes more head spans.len at.reads at.len;
}
  where
    covered : length (map (header_bytes (window bytes)) (take spans.headers fields)) ≡ length (map name_and_value head.fields)
    covered = ap (λ (l : List (List ℕ × List ℕ)). length l) at.fields

    few : length head.fields ≤ MOST_FIELDS
    few =
        let one = length-map (take spans.headers fields) (header_bytes (window bytes)) in
        let two = length-map head.fields name_and_value in
        let three = length-take spans.headers fields in
        omega (arith, covered, one, two, three)

crowded_announced : (head : RequestHead) → MOST_FIELDS < length head.fields → announced (parts_of head) ≡ Err refused.HeadTooLong
unfolding announced parts_of
crowded_announced head many =
    let same = length-map head.fields name_and_value in
    let count : MOST_FIELDS < length (map name_and_value head.fields) = omega (arith, same, many) in
    let test : nat_lt MOST_FIELDS (length (map name_and_value head.fields)) ≡ true = grind (arith, nat_tests, count) in
    rw test refl

-- a head of too many fields is refused, whatever follows
pub crowded : (bytes more : List ℕ) (head : RequestHead) (rest : List ℕ) → ReadsRequest (window bytes) head rest → MOST_FIELDS < length head.fields
    → IsItem (bytes ++ more) (Err refused.HeadTooLong)
crowded bytes more head rest reads many =
    let size = length (print_request head) in
    let behind : drop size (window bytes) ≡ rest = ap (drop size) reads.1 ∙ drop_at (print_request head) rest size refl in
    let at : ReadsRequest (window bytes) head (drop size (window bytes)) = (reads.0, reads.1 ∙ ap (λ l. print_request head ++ l) (sym behind)) in
    (stands head (drop size (bytes ++ more)), head_front bytes more head size at refl, sym (ap (λ a. with_body (parts_of head) (drop size (bytes ++ more)) a) (crowded_announced head many)))

-- what no bytes make a head is refused, whatever follows
pub hopeless : (bytes more : List ℕ) → ((more : List ℕ) → HasNoRequest (window bytes ++ more) × ¬ (MayBecomeRequest (window bytes ++ more)))
    → list_all is_line_end bytes ≡ false → IsItem (bytes ++ more) (Err (refused.Malformed 1))
hopeless bytes more never filled =
    let longer = front_more LONGEST_HEAD bytes more in
    let known = never (take longer.0 more) in
    let none : HasNoRequest (window (bytes ++ more)) = subst HasNoRequest (sym longer.1) known.0 in
    let unmade : ¬ (MayBecomeRequest (window (bytes ++ more))) = λ may. known.1 (subst MayBecomeRequest longer.1 may) in
    (wrong, (none, (λ is. false≢true (sym filled ∙ (and_parts (list_all is_line_end bytes) (list_all is_line_end more) (sym (list_all-append is_line_end bytes more) ∙ is.1)).0), unmade)), refl)

-- ---- the last look

-- for a stream that goes on after a full window
item_long : (bytes more : List ℕ) (may : Bool) → LONGEST_HEAD ≤ length bytes → HasNoRequest (window bytes)
    → MatchBool may (MayBecomeRequest (window bytes)) (¬ (MayBecomeRequest (window bytes)))
    → IsItem (bytes ++ more) (Err (refusal_for false (list_all is_line_end bytes) may))
item_long bytes more true full none may =
    let same : window (bytes ++ more) ≡ window bytes = take-append-le LONGEST_HEAD bytes more full in
    let longer = length-append bytes more in
    (long, (subst HasNoRequest (sym same) none, (omega arith, subst MayBecomeRequest (sym same) may)), refl)
item_long bytes more false full none not =
    let same : window (bytes ++ more) ≡ window bytes = take-append-le LONGEST_HEAD bytes more full in
    let longer = length-append bytes more in
    (wrong, (subst HasNoRequest (sym same) none, (λ is. absurd (omega (arith, is.0, longer, full)), λ m. not (subst MayBecomeRequest same m))), refl)

-- for a stream that ends with the bytes
item_short : (bytes : List ℕ) (all may : Bool) → length bytes < LONGEST_HEAD → list_all is_line_end bytes ≡ all → HasNoRequest (window bytes)
    → MatchBool may (MayBecomeRequest (window bytes)) (¬ (MayBecomeRequest (window bytes)))
    → IsItem bytes (Err (refusal_for true all may))
item_short bytes true may small is none m = (blank, (none, (small, is)), refl)
item_short bytes false true small is none m = (short, (none, (small, is, m)), refl)
item_short bytes false false small is none m = (wrong, (none, (λ b. false≢true (sym is ∙ b.1), m)), refl)

answer : (bytes : List ℕ) (may : Bool) → HasNoRequest (window bytes) → MatchBool may (MayBecomeRequest (window bytes)) (¬ (MayBecomeRequest (window bytes)))
    → (more : List ℕ) → (length bytes < LONGEST_HEAD → more ≡ []) → IsItem (bytes ++ more) (Err (refusal_for (nat_lt (length bytes) LONGEST_HEAD) (list_all is_line_end bytes) may))
answer bytes may none m more ends = ⊎_elim
    (λ small.
    let test : nat_lt (length bytes) LONGEST_HEAD ≡ true = grind (arith, nat_tests, small) in
    let nothing : bytes ++ more ≡ bytes = ap (λ l. bytes ++ l) (ends small) ∙ append-nil bytes in
    subst (λ t. IsItem (bytes ++ more) (Err (refusal_for t (list_all is_line_end bytes) may))) (sym test)
    (subst (λ s. IsItem s (Err (refusal_for true (list_all is_line_end bytes) may))) (sym nothing) (item_short bytes (list_all is_line_end bytes) may small refl none m)))
    (λ full.
    let test : nat_lt (length bytes) LONGEST_HEAD ≡ false = grind (arith, nat_tests, full) in
    subst (λ t. IsItem (bytes ++ more) (Err (refusal_for t (list_all is_line_end bytes) may))) (sym test) (item_long bytes more may full none m))
    (cases_lt (length bytes) LONGEST_HEAD)

judged_by : (bytes : List ℕ) (s a may : Bool) → ((more : List ℕ) → (length bytes < LONGEST_HEAD → more ≡ []) → IsItem (bytes ++ more) (Err (refusal_for s a may)))
    → IsJudged bytes (refusal_for s a may)
judged_by bytes true true may f = f
judged_by bytes true false true f = f
judged_by bytes true false false f = f
judged_by bytes false a true f = f
judged_by bytes false a false f = f

-- the last look refuses as the whole stream asks
pub judged : (bytes : List ℕ) (may : Bool) → HasNoRequest (window bytes) → MatchBool may (MayBecomeRequest (window bytes)) (¬ (MayBecomeRequest (window bytes)))
    → IsJudged bytes (refusal_for (nat_lt (length bytes) LONGEST_HEAD) (list_all is_line_end bytes) may)
judged bytes may none m = judged_by bytes (nat_lt (length bytes) LONGEST_HEAD) (list_all is_line_end bytes) may (answer bytes may none m)

-- ---- what a look says of the window

pub seen : (bytes w : List ℕ) (fields : List HeaderSpan) (p q : Prospect) → w ≡ window bytes → p ≡ q → IsProspect w fields p → IsProspect (window bytes) fields q
seen bytes w fields p q is same known =
    subst (λ (v : Prospect). IsProspect (window bytes) fields v) same (subst (λ (v : List ℕ). IsProspect v fields p) is known)

-- what is never a head isn't one now
pub now : (w : List ℕ) → ((more : List ℕ) → HasNoRequest (w ++ more) × ¬ (MayBecomeRequest (w ++ more))) → HasNoRequest w × ¬ (MayBecomeRequest w)
now w never =
    let here = never [] in
    (subst HasNoRequest (append-nil w) here.0, λ may. here.1 (subst MayBecomeRequest (sym (append-nil w)) may))
