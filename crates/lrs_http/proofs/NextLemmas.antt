-- From what is kept and read to the next item of a stream.
use Rattle.std.proofs.Common.{◌≡◌, ℕ, ◌+◌, ◌-◌, ◌<◌, ◌≤◌, true, false, List, [], ◌++◌, length, take, drop, Option, Some, None, option_map, Ok, Err, refl, sym, ap, ◌∙◌, subst, arith, append_assoc, inl, inr, ⊎_elim, length-append}
use Rattle.std.specs.Prelude.{IfSome, nat_lt, ◌⊎◌, IsUtf8, map, slice_range}
use Rattle.std.proofs.lemmas.Bool.Decides.{nat_tests}
use Rattle.std.proofs.lemmas.List.{take_at, drop_at, take_all, drop_all, length-take-le, take-append-le, take-append-drop, drop-append-le, drop-drop, append_cancel_left, length-drop, length-map}
use Rattle.std.proofs.lemmas.Bool.{cases_lt}
use Rattle.std.proofs.Math.Seq.{take-append-add}
use Rattle.httparse.specs.declared.spans.HeaderSpan.{HeaderSpan}
use Rattle.httparse.specs.declared.spans.RequestSpans.{RequestSpans}
use Rattle.lrs_http.specs.declared.request.Request.{Request}
use Rattle.lrs_http.specs.declared.request.RequestRefused.{RequestRefused}
use Rattle.lrs_http.specs.declared.request.RequestRefused.TheVariants as refused
use Rattle.lrs_http.specs.Head.{HeadParts, parts_of, announced, request_of}
use Rattle.lrs_http.specs.Links.{stream_left, GivesRefusal, GivesNext, IsCause}
use Rattle.httparse.specs.Spans.{span_bytes, header_bytes, name_and_value}
use Rattle.lrs_http.specs.Prospect.{IsHeadAt, IsRequestRefused, IsJudged, parts_at}
use Rattle.lrs_http.specs.Reading.{IsAtEnd, IsBodyAt, IsNoBody, IsEarlyEnd, IsQuiet}
use Rattle.lrs_http.specs.Stream.{stands, IsItem, Item, item_with, with_body, window}
use Rattle.lrs_http.specs.declared.heads.TheConstants.{LONGEST_HEAD, MOST_FIELDS}

-- a refusal that the whole stream asks for
given : (before : Option (List ℕ)) (e : RequestRefused) → IfSome before (λ stream. IsItem stream (Err e)) → GivesRefusal before e
given before refused.End known = known
given before (refused.Malformed rule) known = known
given before refused.HeadTooLong known = known
given before refused.Coded known = known
given before refused.NoLength known = known
given before refused.BodyTooLong known = known
given before refused.Cut known = known
given before refused.LinkFault known = tt
given before refused.Memory known = tt

always : (kept : List ℕ) (e : RequestRefused) → IsRequestRefused kept e → (e ≡ refused.Memory) ⊎ ((more : List ℕ) → IsItem (kept ++ more) (Err e))
always kept refused.End known = inr known
always kept (refused.Malformed rule) known = inr known
always kept refused.HeadTooLong known = inr known
always kept refused.Coded known = inr known
always kept refused.NoLength known = inr known
always kept refused.BodyTooLong known = inr known
always kept refused.Cut known = inr known
always kept refused.LinkFault known = absurd known
always kept refused.Memory known = inl refl

memory_is_free : (before : Option (List ℕ)) (e : RequestRefused) → e ≡ refused.Memory → GivesRefusal before e
memory_is_free before e is = subst (λ (r : RequestRefused). GivesRefusal before r) (sym is) tt

pub refused_early : (kept : List ℕ) (left : Option (List ℕ)) (e : RequestRefused) → IsRequestRefused kept e → GivesRefusal (stream_left kept left) e
refused_early kept left e known = ⊎_elim
    (λ is. memory_is_free (stream_left kept left) e is)
    (λ f. given (stream_left kept left) e (told left f))
    (always kept e known)
  where
    told : (l : Option (List ℕ)) → ((more : List ℕ) → IsItem (kept ++ more) (Err e)) → IfSome (stream_left kept l) (λ stream. IsItem stream (Err e))
    told None f = tt
    told (Some rest) f = f rest

finally : (kept : List ℕ) (e : RequestRefused) → IsJudged kept e
    → (e ≡ refused.Memory) ⊎ ((more : List ℕ) → (length kept < LONGEST_HEAD → more ≡ []) → IsItem (kept ++ more) (Err e))
finally kept refused.End known = inr known
finally kept (refused.Malformed rule) known = inr known
finally kept refused.HeadTooLong known = inr known
finally kept refused.Coded known = inr known
finally kept refused.NoLength known = inr known
finally kept refused.BodyTooLong known = inr known
finally kept refused.Cut known = inr known
finally kept refused.LinkFault known = absurd known
finally kept refused.Memory known = inl refl

pub refused_last : (kept : List ℕ) (left : Option (List ℕ)) (e : RequestRefused) → (length kept < LONGEST_HEAD → IsAtEnd left) → IsJudged kept e
    → GivesRefusal (stream_left kept left) e
refused_last kept left e ends known = ⊎_elim
    (λ is. memory_is_free (stream_left kept left) e is)
    (λ f. given (stream_left kept left) e (told left ends f))
    (finally kept e known)
  where
    told : (l : Option (List ℕ)) → (length kept < LONGEST_HEAD → IsAtEnd l)
        → ((more : List ℕ) → (length kept < LONGEST_HEAD → more ≡ []) → IsItem (kept ++ more) (Err e)) → IfSome (stream_left kept l) (λ stream. IsItem stream (Err e))
    told None ends f = tt
    told (Some rest) ends f = f rest ends

-- a head that is out of order is refused
pub refused_head : (kept : List ℕ) (left : Option (List ℕ)) (fields : List HeaderSpan) (spans : RequestSpans) (e : RequestRefused) → IsHeadAt kept fields spans
    → (e ≡ refused.Memory) ⊎ (announced (parts_at (window kept) fields spans) ≡ Err e) → GivesRefusal (stream_left kept left) e
refused_head kept left fields spans e at why = ⊎_elim
    (λ is. memory_is_free (stream_left kept left) e is)
    (λ is. given (stream_left kept left) e (told left is))
    why
  where
    told : (l : Option (List ℕ)) → announced (parts_at (window kept) fields spans) ≡ Err e → IfSome (stream_left kept l) (λ stream. IsItem stream (Err e))
    told None is = tt
    told (Some rest) is =
        let behind = drop spans.len (kept ++ rest) in
        let known : announced (parts_of at.head) ≡ Err e = ap announced (sym at.parts) ∙ is in
        (stands at.head behind, at.front rest, sym (ap (λ a. with_body (parts_of at.head) behind a) known))

cut_item : (parts : HeadParts) (behind : List ℕ) (size : ℕ) → length behind < size → item_with parts behind size ≡ Err refused.Cut
unfolding item_with
cut_item parts behind size less = let test : nat_lt (length behind) size ≡ true = grind (arith, nat_tests, less) in rw test refl

-- a body that the stream cuts is refused
pub refused_body : (kept : List ℕ) (left : Option (List ℕ)) (fields : List HeaderSpan) (spans : RequestSpans) (size : ℕ) (e : RequestRefused) → IsHeadAt kept fields spans
    → announced (parts_at (window kept) fields spans) ≡ Ok size → IsNoBody spans.len size (stream_left kept left) e → GivesRefusal (stream_left kept left) e
refused_body kept left fields spans size refused.Cut at is short = told left short
  where
    told : (l : Option (List ℕ)) → IfSome (stream_left kept l) (λ stream. length (drop spans.len stream) < size) → IfSome (stream_left kept l) (λ stream. IsItem stream (Err refused.Cut))
    told None few = tt
    told (Some rest) few = (stands at.head (drop spans.len (kept ++ rest)), at.front rest, sym (item few))
      where
        item : length (drop spans.len (kept ++ rest)) < size → with_body (parts_of at.head) (drop spans.len (kept ++ rest)) (announced (parts_of at.head)) ≡ Err refused.Cut
        item less = ap (λ a. with_body (parts_of at.head) (drop spans.len (kept ++ rest)) a) (ap announced (sym at.parts) ∙ is) ∙ cut_item (parts_of at.head) (drop spans.len (kept ++ rest)) size less
refused_body kept left fields spans size refused.LinkFault at is none = tt
refused_body kept left fields spans size refused.Memory at is none = tt
refused_body kept left fields spans size refused.End at is none = absurd none
refused_body kept left fields spans size (refused.Malformed rule) at is none = absurd none
refused_body kept left fields spans size refused.HeadTooLong at is none = absurd none
refused_body kept left fields spans size refused.Coded at is none = absurd none
refused_body kept left fields spans size refused.NoLength at is none = absurd none
refused_body kept left fields spans size refused.BodyTooLong at is none = absurd none

with_whole : (kept rest body behind : List ℕ) (fields : List HeaderSpan) (spans : RequestSpans) (size : ℕ) (at : IsHeadAt kept fields spans)
    → announced (parts_at (window kept) fields spans) ≡ Ok size → drop spans.len (kept ++ rest) ≡ body ++ behind → length body ≡ size
    → with_body (parts_of at.head) (drop spans.len (kept ++ rest)) (announced (parts_of at.head)) ≡ Ok (request_of (parts_at (window kept) fields spans) body, behind)
unfolding item_with
with_whole kept rest body behind fields spans size at is split long =
    let known : announced (parts_of at.head) ≡ Ok size = ap announced (sym at.parts) ∙ is in
    let more = length-append body behind in
    let test : nat_lt (length (body ++ behind)) size ≡ false = grind (arith, nat_tests, more, long) in
    let front : take size (body ++ behind) ≡ body = take_at body behind size long in
    let back : drop size (body ++ behind) ≡ behind = drop_at body behind size long in
    rw (known, split, test, front, back, at.parts) refl

-- a request whose head and body were read is the next item
pub request_next : (kept : List ℕ) (left after : Option (List ℕ)) (fields : List HeaderSpan) (spans : RequestSpans) (size : ℕ) (request : Request) (body : List ℕ) → IsHeadAt kept fields spans
    → announced (parts_at (window kept) fields spans) ≡ Ok size → IsBodyAt spans.len size (stream_left kept left) after body
    → request ≡ request_of (parts_at (window kept) fields spans) body → GivesNext (stream_left kept left) (Ok request) after
request_next kept None after fields spans size request body at is read same = tt
request_next kept (Some rest) after fields spans size request body at is read same = (
  read.0,
  (
    stands at.head (drop spans.len (kept ++ rest)),
    at.front rest,
    ap (λ (r : Request). let item : Item = Ok (r, read.0) in item) same ∙ sym (with_whole kept rest body read.0 fields spans size at is read.1 read.2),
  ),
  read.3,
)

-- ---- reads in pieces

-- what came stands after what was held
pub came_behind : (front came : List ℕ) (before after : Option (List ℕ)) → before ≡ option_map (λ rest. came ++ rest) after
    → stream_left (front ++ came) after ≡ stream_left front before
came_behind front came before None is = sym (ap (λ o. stream_left front o) is)
came_behind front came before (Some rest) is = ap Some (append_assoc front came rest) ∙ sym (ap (λ o. stream_left front o) is)

pub held_and_came : (xs ys post : List ℕ) (held n : ℕ) → held ≤ length xs → n ≤ length ys → take (held + n) (take held xs ++ (ys ++ post)) ≡ take held xs ++ take n ys
held_and_came xs ys post held n within few =
    let long : length (take held xs) ≡ held = length-take-le held xs within in
    ap (λ k. take (k + n) (take held xs ++ (ys ++ post))) (sym long) ∙ take-append-add (take held xs) (ys ++ post) n ∙ ap (λ l. take held xs ++ l) (take-append-le n ys post few)

-- a body of which a part was held: that part, then what came of the link
pub body_split : (kept left body after : List ℕ) (start held : ℕ) → start + held ≤ length kept → body ++ after ≡ take held (drop start kept) ++ left
    → (held < length body → start + held ≡ length kept) → held ≤ length body
    → drop start (kept ++ left) ≡ body ++ (drop (start + held) kept ++ after)
body_split kept left body after start held within is ends room = ⊎_elim
    (λ more.
    let nothing : drop (start + held) kept ≡ [] = drop_all (start + held) kept (omega (arith, ends more)) in
    let front : take held (drop start kept) ≡ drop start kept = take_all held (drop start kept) (omega (arith, ends more, length-drop start kept)) in
    behind ∙ sym (ap (λ l. l ++ left) front) ∙ sym is ∙ ap (λ l. body ++ (l ++ after)) (sym nothing))
    (λ full.
    let size : length (take held (drop start kept)) ≡ held = length-take-le held (drop start kept) (omega (arith, length-drop start kept)) in
    let same : body ≡ take held (drop start kept) = sym (take_at body after (length body) refl) ∙ ap (take (length body)) is ∙ take_at (take held (drop start kept)) left (length body) (omega (arith, size, room, full)) in
    let rest : after ≡ left = append_cancel_left body after left (is ∙ ap (λ l. l ++ left) (sym same)) in
    behind ∙ ap (λ l. l ++ left) (sym (take-append-drop held (drop start kept))) ∙ append_assoc (take held (drop start kept)) (drop held (drop start kept)) left
    ∙ ap (λ l. l ++ (drop held (drop start kept) ++ left)) (sym same)
    ∙ ap (λ l. body ++ (l ++ left)) (drop-drop held start kept) ∙ ap (λ l. body ++ (drop (start + held) kept ++ l)) (sym rest))
    (cases_lt held (length body))
  where
    behind : drop start (kept ++ left) ≡ drop start kept ++ left
    behind = drop-append-le start kept left (omega arith)

-- ---- causes

pub quiet_cause : (before now : ℕ) (e : RequestRefused) → IsQuiet e → now ≡ before → IsCause before now e
quiet_cause before now refused.End quiet is = is
quiet_cause before now (refused.Malformed rule) quiet is = is
quiet_cause before now refused.HeadTooLong quiet is = is
quiet_cause before now refused.Coded quiet is = is
quiet_cause before now refused.NoLength quiet is = is
quiet_cause before now refused.BodyTooLong quiet is = is
quiet_cause before now refused.Cut quiet is = is
quiet_cause before now refused.LinkFault quiet is = absurd quiet
quiet_cause before now refused.Memory quiet is = is

pub quiet_early : (kept : List ℕ) (e : RequestRefused) → IsRequestRefused kept e → IsQuiet e
quiet_early kept refused.End known = tt
quiet_early kept (refused.Malformed rule) known = tt
quiet_early kept refused.HeadTooLong known = tt
quiet_early kept refused.Coded known = tt
quiet_early kept refused.NoLength known = tt
quiet_early kept refused.BodyTooLong known = tt
quiet_early kept refused.Cut known = tt
quiet_early kept refused.LinkFault known = absurd known
quiet_early kept refused.Memory known = tt

pub quiet_last : (kept : List ℕ) (e : RequestRefused) → IsJudged kept e → IsQuiet e
quiet_last kept refused.End known = tt
quiet_last kept (refused.Malformed rule) known = tt
quiet_last kept refused.HeadTooLong known = tt
quiet_last kept refused.Coded known = tt
quiet_last kept refused.NoLength known = tt
quiet_last kept refused.BodyTooLong known = tt
quiet_last kept refused.Cut known = tt
quiet_last kept refused.LinkFault known = absurd known
quiet_last kept refused.Memory known = tt

-- ---- the parts of a head

pub target_text : (kept : List ℕ) (fields : List HeaderSpan) (spans : RequestSpans) → IsHeadAt kept fields spans → IsUtf8 (span_bytes (window kept) spans.path)
unfolding parts_at parts_of
target_text kept fields spans at = subst (λ (l : List ℕ). IsUtf8 l) (sym (ap (λ (p : HeadParts). p.target) at.parts)) (at.front []).0.0.target_text

pub few_fields : (kept : List ℕ) (fields : List HeaderSpan) (spans : RequestSpans) → IsHeadAt kept fields spans → spans.headers ≤ MOST_FIELDS
unfolding parts_at parts_of
few_fields kept fields spans at =
    let one = length-map (take spans.headers fields) (header_bytes (window kept)) in
    let two = length-map at.head.fields name_and_value in
    let three = length-take-le spans.headers fields at.within.section.count_fits in
    let same : length (map (header_bytes (window kept)) (take spans.headers fields)) ≡ length (map name_and_value at.head.fields) = ap (λ (p : HeadParts). length p.fields) at.parts in
    omega (arith, one, two, three, same, at.few)

-- a body of what was kept and what the link gave
pub body_at : (kept rest body : List ℕ) (left after : Option (List ℕ)) (start held size : ℕ) → start + held ≤ length kept → rest ≡ drop (start + held) kept
    → stream_left body after ≡ stream_left (take held (drop start kept)) left → (held < size → start + held ≡ length kept) → held ≤ size → length body ≡ size
    → IsBodyAt start size (stream_left kept left) (stream_left rest after) body
body_at kept rest body None after start held size within is told ends room long = tt
body_at kept rest body (Some l) None start held size within is told ends room long = cc
body_at kept rest body (Some l) (Some m) start held size within is told ends room long =
    let same : body ++ m ≡ take held (drop start kept) ++ l = cc in
    let split = body_split kept l body m start held within same (λ less. ends (omega arith)) (omega arith) in
    (drop (start + held) kept ++ m, split, long, ap (λ k. let o : Option (List ℕ) = Some (k ++ m) in o) is)

-- bytes that end before a body is full
pub body_short : (kept : List ℕ) (left : Option (List ℕ)) (start held size : ℕ) (e : RequestRefused) → start + held ≤ length kept → (held < size → start + held ≡ length kept) → held ≤ size
    → IsEarlyEnd size (stream_left (take held (drop start kept)) left) e → IsNoBody start size (stream_left kept left) e
body_short kept None start held size refused.Cut within ends room short = tt
body_short kept (Some l) start held size refused.Cut within ends room short =
    let behind : drop start (kept ++ l) ≡ drop start kept ++ l = drop-append-le start kept l (omega arith) in
    let sum = length-append (drop start kept) l in
    let part = length-append (take held (drop start kept)) l in
    let front = length-take-le held (drop start kept) (omega (arith, length-drop start kept)) in
    let whole = length-drop start kept in
    let count : length (drop start (kept ++ l)) ≡ length (drop start kept) + length l = ap (λ (m : List ℕ). length m) behind ∙ sum in
    let less : held < size = omega (arith, short, part, front) in
    let all : start + held ≡ length kept = ends less in
    omega (arith, short, part, front, whole, count, all)
body_short kept left start held size refused.LinkFault within ends room short = tt
body_short kept left start held size refused.Memory within ends room short = absurd short
body_short kept left start held size refused.End within ends room short = absurd short
body_short kept left start held size (refused.Malformed rule) within ends room short = absurd short
body_short kept left start held size refused.HeadTooLong within ends room short = absurd short
body_short kept left start held size refused.Coded within ends room short = absurd short
body_short kept left start held size refused.NoLength within ends room short = absurd short
body_short kept left start held size refused.BodyTooLong within ends room short = absurd short

pub at_end : (n : ℕ) → nat_lt 0 n ≡ false → n ≡ 0
at_end n none = grind (arith, nat_tests, none)

pub front_is : (kept view items : List ℕ) (start held : ℕ) → view ≡ kept → start + held ≤ length kept
    → take (length (slice_range view start (start + held))) items ≡ slice_range view start (start + held) → take held items ≡ take held (drop start kept)
front_is kept view items start held is within known =
    let part : slice_range view start (start + held) ≡ take held (drop start kept) =
    ap (λ (l : List ℕ). take (start + held - start) (drop start l)) is ∙ ap (λ n. take n (drop start kept)) (omega arith) in
    let size : length (slice_range view start (start + held)) ≡ held =
    ap (λ (l : List ℕ). length l) part ∙ length-take-le held (drop start kept) (omega (arith, length-drop start kept)) in
    ap (λ n. take n items) (sym size) ∙ known ∙ part

pub with_its_body : (parts : HeadParts) (request : Request) (body : List ℕ) → request ≡ request_of parts [] → record request { body = body } ≡ request_of parts body
unfolding request_of
with_its_body parts request body is = ap (λ (r : Request). record r { body = body }) is

pub next_given : (before : Option (List ℕ)) (kept : List ℕ) (left after : Option (List ℕ)) (fields : List HeaderSpan) (spans : RequestSpans) (size : ℕ) (request : Request) (body : List ℕ)
    → stream_left kept left ≡ before → IsHeadAt kept fields spans → announced (parts_at (window kept) fields spans) ≡ Ok size → IsBodyAt spans.len size (stream_left kept left) after body
    → request ≡ request_of (parts_at (window kept) fields spans) body → GivesNext before (Ok request) after
next_given before kept left after fields spans size request body told at is read same =
    subst (λ (o : Option (List ℕ)). GivesNext o (Ok request) after) told (request_next kept left after fields spans size request body at is read same)
