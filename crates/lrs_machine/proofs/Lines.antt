-- Lines with one record more, fronts of lines, and the line of an opening.
use Rattle.std.proofs.Common.{◌≡◌, ℕ, zero, suc, ◌+◌, ◌-◌, ◌<◌, ◌≤◌, List, [], ◌∷◌, ◌++◌, length, take, drop, Option, Some, None, Bool, true, false, ◌&&◌, Result, Ok, Err, refl, sym, ap, ◌∙◌, subst, inl, inr, arith, length-append, append_assoc}
use Rattle.std.specs.Prelude.{◌⊎◌, ◌||◌, is_some, is_ok, option_map, slice_get, IsNone, IsSome, if◌then◌else◌}
use Rattle.std.proofs.lemmas.List.{append-nil, take-append-le, take-append-drop}
use Rattle.std.proofs.lemmas.Option.{slice_get_within}
use Rattle.lrs_fold.specs.LrsHistoryHistory.{Answer}
use Rattle.lrs_record.specs.declared.entry.Entry.{Entry}
use Rattle.lrs_replies.specs.declared.answered.Answered.{Answered}
use Rattle.lrs_replies.specs.declared.reply.Trouble.{Trouble}
use Rattle.lrs_replies.specs.declared.reply.Trouble.TheVariants as trouble
use Rattle.lrs_machine.specs.Acts.{landed_among}
use Rattle.lrs_machine.specs.Line.{Record, with_made, entries, doubt_behind, doubt_from, in_doubt, sure, opening_record, opened_line, line_of, AreBefore, BeginsWith}
use Rattle.lrs_machine.specs.Steps.{CarriesOut, one_of, sure_of, record_made, line_after}
use Rattle.cmi5_running_verdicts.proofs.Kept.{last_held}

pub some_same : {A : Type 0} (x y : A) → Some x ≡ Some y → x ≡ y
some_same x y e = cc

pub none_some : {A : Type 0} (x : A) → ◌≡◌ {A = Option A} None (Some x) → ⊥
none_some x e = cc

-- ---- one record more

with_made_append : (made : Option Entry) (h g : List Entry) → with_made made (h ++ g) ≡ with_made made h ++ g
with_made_append None h g = refl
with_made_append (Some e) h g = refl

pub entries_append : (a b : List Record) → entries (a ++ b) ≡ entries a ++ entries b
entries_append [] b = refl
entries_append (r ∷ a) b = ap (λ (l : List Entry). with_made r.made l) (entries_append a b) ∙ with_made_append r.made (entries a) (entries b)

pub entries_one : (r : Record) → entries (r ∷ []) ≡ one_of r.made
entries_one r = by_made r.made
  where
    by_made : (made : Option Entry) → with_made made [] ≡ one_of made
    by_made None = refl
    by_made (Some e) = refl

pub doubt_append : (d : Bool) (a b : List Record) → doubt_from d (a ++ b) ≡ doubt_from (doubt_from d a) b
doubt_append d [] b = refl
doubt_append d (r ∷ a) b = doubt_append (doubt_behind d r) a b

-- ---- certainty never falls

step_sure : (d : Bool) (made : Option Entry) (acknowledged landed : Bool) (moment n : ℕ)
    → (let r : Record = record { made = made; acknowledged = acknowledged; landed = landed; moment = moment } in sure_of d n ≤ sure_of (doubt_behind d r) (n + length (one_of made)))
step_sure true (Some e) true landed moment n = omega arith
step_sure true (Some e) false landed moment n = omega arith
step_sure false (Some e) true landed moment n = omega arith
step_sure false (Some e) false landed moment n = omega arith
step_sure true None acknowledged true moment n = omega arith
step_sure true None acknowledged false moment n = omega arith
step_sure false None acknowledged landed moment n = omega arith

sure_one : (line : List Record) (r : Record) → sure line ≤ sure (line ++ r ∷ [])
sure_one line r =
    let n : length (entries (line ++ r ∷ [])) ≡ length (entries line) + length (one_of r.made) =
    ap length (entries_append line (r ∷ [])) ∙ length-append (entries line) (entries (r ∷ [])) ∙ ap (λ (l : List Entry). length (entries line) + length l) (entries_one r) in
    let d : in_doubt (line ++ r ∷ []) ≡ doubt_behind (in_doubt line) r = doubt_append false line (r ∷ []) in
    let s = step_sure (in_doubt line) r.made r.acknowledged r.landed r.moment (length (entries line)) in
    rw d (rw n s)

moved_over : {A : Type 0} (xs : List A) (y : A) (ys : List A) → (xs ++ y ∷ []) ++ ys ≡ xs ++ y ∷ ys
moved_over [] y ys = refl
moved_over (x ∷ xs) y ys = ap (λ l. x ∷ l) (moved_over xs y ys)

pub sure_more : (line rest : List Record) → sure line ≤ sure (line ++ rest)
sure_more line [] = rw (append-nil line) (omega arith)
sure_more line (r ∷ rest) =
    let a = sure_one line r in
    let b : sure (line ++ r ∷ []) ≤ sure (line ++ r ∷ rest) = subst (λ (l : List Record). sure (line ++ r ∷ []) ≤ sure l) (moved_over line r rest) (sure_more (line ++ r ∷ []) rest) in
    omega (arith, a, b)

pub sure_front : (k : ℕ) (line : List Record) → sure (take k line) ≤ sure line
sure_front k line = subst (λ (l : List Record). sure (take k line) ≤ sure l) (take-append-drop k line) (sure_more (take k line) (drop k line))

-- ---- the line after an act

-- the same line, or one record more with this moment
abbrev pub Goes : List Record → Option Entry → ℕ → List Record → Type 0
Goes line made moment next = ((made ≡ None) × (next ≡ line)) ⊎ ((r : Record) × (r.made ≡ made) × (r.moment ≡ moment) × (next ≡ line ++ r ∷ []))

pub goes : (line : List Record) (made : Option Entry) (acknowledged : Bool) (landed : Option ℕ) (moment : ℕ) → Goes line made moment (line_after line made acknowledged landed moment)
goes line (Some e) acknowledged landed moment = inr (record_made (Some e) acknowledged landed moment, refl, refl, refl)
goes line None acknowledged (Some k) moment = inr (record_made None acknowledged (Some k) moment, refl, refl, refl)
goes line None acknowledged None moment = inl (refl, refl)

pub entries_goes : (line next : List Record) (made : Option Entry) (moment : ℕ) → Goes line made moment next → entries next ≡ entries line ++ one_of made
entries_goes line next made moment (inl same) = ap entries same.1 ∙ sym (append-nil (entries line)) ∙ ap (λ (m : Option Entry). entries line ++ one_of m) (sym same.0)
entries_goes line next made moment (inr more) =
    let r = more.0 in
    ap entries more.3 ∙ entries_append line (r ∷ []) ∙ ap (λ (l : List Entry). entries line ++ l) (entries_one r ∙ ap one_of more.1)

-- a line with no more entries than before is behind an act that made none
pub not_longer : {A : Type 0} (f : A → Entry) (line next : List Record) (made : Option A) (acknowledged : Bool) (landed : Option ℕ) (moment : ℕ)
    → next ≡ line_after line (option_map f made) acknowledged landed moment → length (entries next) ≡ length (entries line) → IsNone made
not_longer f line next None acknowledged landed moment is same = refl
not_longer f line next (Some s) acknowledged landed moment is same =
    let g : Goes line (Some (f s)) moment next = subst (λ (l : List Record). Goes line (Some (f s)) moment l) (sym is) (goes line (Some (f s)) acknowledged landed moment) in
    let n : length (entries next) ≡ length (entries line) + 1 = ap length (entries_goes line next (Some (f s)) moment g) ∙ length-append (entries line) (f s ∷ []) in
    absurd (omega (arith, n, same))

pub sure_goes : (line next : List Record) (made : Option Entry) (moment : ℕ) → Goes line made moment next → sure line ≤ sure next
sure_goes line next made moment (inl same) = rw (same.1) (omega arith)
sure_goes line next made moment (inr more) = rw (more.3) (sure_one line more.0)

-- the doubt after it
pub doubt_with : (line : List Record) (said : Result Answered Trouble) (made : Option Entry) (d₀ d₁ : Bool) (a : Answer) (n moment : ℕ) → in_doubt line ≡ d₀ → CarriesOut a d₀ d₁ made said
    → in_doubt (line_after line made (is_ok said) (landed_among n d₀ d₁ (is_some made)) moment) ≡ d₁
doubt_with line (Ok said) (Some e) d₀ d₁ a n moment d says = doubt_append false line (_ ∷ []) ∙ sym says.2
doubt_with line (Ok said) None true true a n moment d says = d
doubt_with line (Ok said) None true false a n moment d says = doubt_append false line (_ ∷ []) ∙ ap (λ (b : Bool). b && false) d
doubt_with line (Ok said) None false d₁ a n moment d says = d ∙ sym says.2
doubt_with line (Err trouble.Memory) (Some e) d₀ d₁ a n moment d says = absurd (none_some e (sym says.0))
doubt_with line (Err trouble.Memory) None true true a n moment d says = d
doubt_with line (Err trouble.Memory) None true false a n moment d says = doubt_append false line (_ ∷ []) ∙ ap (λ (b : Bool). b && false) d
doubt_with line (Err trouble.Memory) None false d₁ a n moment d says = d ∙ sym says.1
doubt_with line (Err trouble.Disk) (Some e) d₀ d₁ a n moment d (inl none) = absurd (none_some e (sym none.0))
doubt_with line (Err trouble.Disk) (Some e) d₀ d₁ a n moment d (inr doubtful) = doubt_append false line (_ ∷ []) ∙ sym doubtful.2
doubt_with line (Err trouble.Disk) None true true a n moment d says = d
doubt_with line (Err trouble.Disk) None true false a n moment d says = doubt_append false line (_ ∷ []) ∙ ap (λ (b : Bool). b && false) d
doubt_with line (Err trouble.Disk) None false d₁ a n moment d (inl none) = d ∙ sym (none.1 refl)
doubt_with line (Err trouble.Disk) None false d₁ a n moment d (inr doubtful) = absurd (some_none a.entry doubtful.0 doubtful.1)
  where
    some_none : (o : Option Entry) → IsSome o → None ≡ o → ⊥
    some_none None some is = cc
    some_none (Some e) some is = none_some e is

-- what stands before the acts stays
pub front_after : (front acts : List Record) (made : Option Entry) (acknowledged : Bool) (landed : Option ℕ) (moment : ℕ)
    → front ++ line_after acts made acknowledged landed moment ≡ line_after (front ++ acts) made acknowledged landed moment
front_after front acts made acknowledged landed moment = by_change (is_some made || is_some landed)
  where
    by_change : (b : Bool) → front ++ (if b then acts ++ record_made made acknowledged landed moment ∷ [] else acts) ≡ (if b then (front ++ acts) ++ record_made made acknowledged landed moment ∷ [] else front ++ acts)
    by_change true = sym (append_assoc front acts (record_made made acknowledged landed moment ∷ []))
    by_change false = refl

-- the line of an opening and of the acts, with the record of one more
pub noted : (t : ℕ) (opening : List Entry) (acts next : List Record) (made : Option Entry) (ok well : Bool) (landed : Option ℕ) (moment now : ℕ) → next ≡ line_after acts made ok landed moment → ok ≡ well → moment ≡ now
    → line_of t opening next ≡ line_after (line_of t opening acts) made well landed now
noted t opening acts next made ok well landed moment now is same at =
    ap (λ (a : List Record). opened_line t opening ++ a) (is ∙ ap (λ (b : Bool). line_after acts made b landed moment) same ∙ ap (λ (m : ℕ). line_after acts made well landed m) at)
    ∙ front_after (opened_line t opening) acts made well landed now

-- ---- indices in a line with one record more

get_left : {A : Type 0} (xs ys : List A) (k : ℕ) → k < length xs → slice_get (xs ++ ys) k ≡ slice_get xs k
get_left [] ys k near = absurd (omega (arith, near))
get_left (x ∷ xs) ys zero near = refl
get_left (x ∷ xs) ys (suc k) near = get_left xs ys k (omega (arith, near))

pub take_whole : {A : Type 0} (xs : List A) (n : ℕ) → length xs ≤ n → take n xs ≡ xs
take_whole [] zero le = refl
take_whole [] (suc n) le = refl
take_whole (x ∷ xs) zero le = absurd (omega (arith, le))
take_whole (x ∷ xs) (suc n) le = ap (λ l. x ∷ l) (take_whole xs n (omega (arith, le)))

pub take_front : {A : Type 0} (xs ys : List A) (n : ℕ) → n ≡ length xs → take n (xs ++ ys) ≡ xs
take_front xs ys n is = take-append-le n xs ys (omega (arith, is)) ∙ take_whole xs n (omega (arith, is))

suc_side : (a b : ℕ) → (a < b) ⊎ (a ≡ b) → (suc a < suc b) ⊎ (suc a ≡ suc b)
suc_side a b (inl low) = inl (omega (arith, low))
suc_side a b (inr same) = inr (ap (λ (n : ℕ). suc n) same)

side : (a b : ℕ) → a ≤ b → (a < b) ⊎ (a ≡ b)
side zero zero le = inr refl
side zero (suc b) le = inl (omega arith)
side (suc a) zero le = absurd (omega (arith, le))
side (suc a) (suc b) le = suc_side a b (side a b (omega (arith, le)))

-- an index is an old one, or the last
pub which_of : (line : List Record) (r q : Record) (k : ℕ) → slice_get (line ++ r ∷ []) k ≡ Some q
    → ((k < length line) × (slice_get line k ≡ Some q)) ⊎ ((k ≡ length line) × (q ≡ r))
which_of line r q k at =
    let near = slice_get_within (line ++ r ∷ []) k q at in
    let len = length-append line (r ∷ []) in
    elim (side k (length line) (omega (arith, near, len))) [
      | inl low ↦ inl (low, sym (get_left line (r ∷ []) k low) ∙ at)
      | inr last ↦ inr (last, some_same q r (sym at ∙ ap (λ (n : ℕ). slice_get (line ++ r ∷ []) n) last ∙ last_held line r))
    ]

-- no record of the line after an act is of a later moment
pub before_goes : (line next : List Record) (made : Option Entry) (before now : ℕ) → before ≤ now → Goes line made now next → AreBefore before line → AreBefore now next
before_goes line next made before now le (inl same) early k r at = (let old = early k r (ap (λ (l : List Record). slice_get l k) (sym same.1) ∙ at) in omega (arith, old, le))
before_goes line next made before now le (inr more) early k r at =
    elim (which_of line more.0 r k (ap (λ (l : List Record). slice_get l k) (sym more.3) ∙ at)) [
      | inl old ↦ (let o = early k r old.1 in omega (arith, o, le))
      | inr last ↦ (let moment : r.moment ≡ now = ap (λ (w : Record). w.moment) last.1 ∙ more.2 in omega (arith, moment))
    ]

-- ---- the line of an opening

pub entries_opened : (t : ℕ) (h : List Entry) → entries (opened_line t h) ≡ h
entries_opened t [] = refl
entries_opened t (e ∷ h) = ap (λ (l : List Entry). e ∷ l) (entries_opened t h)

pub doubt_opened : (t : ℕ) (h : List Entry) → in_doubt (opened_line t h) ≡ false
doubt_opened t [] = refl
doubt_opened t (e ∷ h) = doubt_opened t h

pub moment_opened : (t : ℕ) (h : List Entry) (k : ℕ) (r : Record) → slice_get (opened_line t h) k ≡ Some r → r.moment ≡ t
moment_opened t [] k r at = absurd (none_some r at)
moment_opened t (e ∷ h) zero r at = sym (ap (λ (w : Record). w.moment) (some_same (opening_record t e) r at))
moment_opened t (e ∷ h) (suc k) r at = moment_opened t h k r at

-- the entries of an opening are among those of its line
pub opened_within : (t n : ℕ) (h : List Entry) (acts : List Record) → n ≡ length h → n ≤ length (entries (line_of t h acts))
opened_within t n h acts is =
    let more : length (entries (line_of t h acts)) ≡ length (h ++ entries acts) =
    ap length (entries_append (opened_line t h) acts) ∙ ap (λ (l : List Entry). length (l ++ entries acts)) (entries_opened t h) in
    omega (arith, is, more, length-append h (entries acts))

-- a line begins with that of its opening
pub begins_opened : (t n : ℕ) (h : List Entry) (acts : List Record) → n ≡ length h → BeginsWith (opened_line t (take n (entries (line_of t h acts)))) (line_of t h acts)
begins_opened t n h acts is =
    let front : take n (entries (line_of t h acts)) ≡ h =
    ap (λ (l : List Entry). take n l) (entries_append (opened_line t h) acts ∙ ap (λ (l : List Entry). l ++ entries acts) (entries_opened t h)) ∙ take_front h (entries acts) n is in
    (acts, ap (λ (l : List Entry). opened_line t l ++ acts) front)
