-- What is read of the words of writes.
use Rattle.std.proofs.Common.{◌≡◌, ℕ, List, Option, Some, None, Bool, true, false, if◌then◌else◌, Result, Ok, Err, IsUtf8, codes, refl, sym, ap, ◌∙◌, subst}
use Rattle.std.specs.Option.{ok_or}
use Rattle.std.specs.Str.{bytes_eq}
use Rattle.cmi5_course.specs.Reasons.{reason_of, reason_text}
use Rattle.cmi5_course.specs.Words.{mode_of, mode_text}
use Rattle.cmi5_course.specs.declared.launch.Mode.{Mode}
use Rattle.cmi5_course.specs.declared.launch.Mode.TheVariants.{Normal, Browse, Review}
use Rattle.cmi5_course.specs.declared.reason.Reason.{Reason}
use Rattle.cmi5_course.specs.declared.reason.Reason.TheVariants.{TestedOut, EquivalentAu, EquivalentOutsideActivity, Administrative}
use Rattle.lrs_fields.specs.Reading.{IsKeptValue, ReadsField, ReadsSpelling}
use Rattle.lrs_fields.specs.Values.{Value, text_value}
use Rattle.lrs_fields.proofs.FieldValues.{spelled, unspelled}
use Rattle.lrs_json.proofs.SmallBytes.{IsUtf8-small}
use Rattle.lrs_json_reader.specs.declared.cursor.Stop.{Stop}
use Rattle.lrs_json_reader.specs.declared.cursor.Stop.TheVariants.{Bad}
use Rattle.lrs_record.specs.Writes.{how_of, how_text}
use Rattle.lrs_record.specs.declared.entry.How.{How}
use Rattle.lrs_record.specs.declared.entry.How.TheVariants as how
use Rattle.lrs_agents.proofs.SameAgents.{same_bytes}

abbrev pub how_value : How → Value
how_value h = text_value (how_text h)

abbrev pub mode_value : Mode → Value
mode_value mode = text_value (mode_text mode)

abbrev pub reason_value : Reason → Value
reason_value reason = text_value (reason_text reason)

-- a word is read of its spelling, if each that is read is of its own
word_spelled : {A : Type 0} (spelling : A → List ℕ) (of : List ℕ → Option A) (text : List ℕ) (found : Option A) → ((a : A) → of (spelling a) ≡ Some a) → ((a : A) → of text ≡ Some a → text ≡ spelling a)
    → found ≡ of text → ReadsSpelling spelling (λ a. Unit {0}) text (ok_or found Bad)
word_spelled spelling of text (Some a) back own is =
    record { found = (tt, own a (sym is)); all = λ b may same. let twice : Some a ≡ Some b = is ∙ ap of same ∙ back b in cc twice }
word_spelled {A} spelling of text None back own is =
    record { found = tt; all = λ b may same. let twice : ◌≡◌ {A = Option A} None (Some b) = is ∙ ap of same ∙ back b in absurd (cc twice) }

-- ---- each word is read again as itself

pub read_how : (h : How) → how_of (how_text h) ≡ Some h
read_how how.Put = refl
read_how how.Post = refl

pub read_mode : (mode : Mode) → mode_of (mode_text mode) ≡ Some mode
unfolding mode_of
read_mode Normal = refl
read_mode Browse = refl
read_mode Review = refl

pub read_reason : (reason : Reason) → reason_of (reason_text reason) ≡ Some reason
unfolding reason_of
read_reason TestedOut = refl
read_reason EquivalentAu = refl
read_reason EquivalentOutsideActivity = refl
read_reason Administrative = refl

how_at : (text : List ℕ) (p q : Bool) (a : How) → bytes_eq text (codes "put") ≡ p → bytes_eq text (codes "post") ≡ q → (if p then Some how.Put else (if q then Some how.Post else None)) ≡ Some a
    → text ≡ how_text a
how_at text true q a x y e = same_bytes text _ x ∙ ap how_text (let same : how.Put ≡ a = cc e in same)
how_at text false true a x y e = same_bytes text _ y ∙ ap how_text (let same : how.Post ≡ a = cc e in same)
how_at text false false a x y e = absurd (cc e)

how_own : (text : List ℕ) (a : How) → how_of text ≡ Some a → text ≡ how_text a
how_own text a e = how_at text (bytes_eq text (codes "put")) (bytes_eq text (codes "post")) a refl refl e

mode_at : (text : List ℕ) (p q r : Bool) (a : Mode) → bytes_eq text (mode_text Normal) ≡ p → bytes_eq text (mode_text Browse) ≡ q → bytes_eq text (mode_text Review) ≡ r
    → (if p then Some Normal else (if q then Some Browse else (if r then Some Review else None))) ≡ Some a → text ≡ mode_text a
mode_at text true q r a x y z e = same_bytes text _ x ∙ ap mode_text (let same : Normal ≡ a = cc e in same)
mode_at text false true r a x y z e = same_bytes text _ y ∙ ap mode_text (let same : Browse ≡ a = cc e in same)
mode_at text false false true a x y z e = same_bytes text _ z ∙ ap mode_text (let same : Review ≡ a = cc e in same)
mode_at text false false false a x y z e = absurd (cc e)

mode_own : (text : List ℕ) (a : Mode) → mode_of text ≡ Some a → text ≡ mode_text a
unfolding mode_of
mode_own text a e = mode_at text (bytes_eq text (mode_text Normal)) (bytes_eq text (mode_text Browse)) (bytes_eq text (mode_text Review)) a refl refl refl e

reason_at : (text : List ℕ) (p q r s : Bool) (a : Reason) → bytes_eq text (reason_text TestedOut) ≡ p → bytes_eq text (reason_text EquivalentAu) ≡ q → bytes_eq text (reason_text EquivalentOutsideActivity) ≡ r
    → bytes_eq text (reason_text Administrative) ≡ s
    → (if p then Some TestedOut else (if q then Some EquivalentAu else (if r then Some EquivalentOutsideActivity else (if s then Some Administrative else None)))) ≡ Some a → text ≡ reason_text a
reason_at text true q r s a x y z u e = same_bytes text _ x ∙ ap reason_text (let same : TestedOut ≡ a = cc e in same)
reason_at text false true r s a x y z u e = same_bytes text _ y ∙ ap reason_text (let same : EquivalentAu ≡ a = cc e in same)
reason_at text false false true s a x y z u e = same_bytes text _ z ∙ ap reason_text (let same : EquivalentOutsideActivity ≡ a = cc e in same)
reason_at text false false false true a x y z u e = same_bytes text _ u ∙ ap reason_text (let same : Administrative ≡ a = cc e in same)
reason_at text false false false false a x y z u e = absurd (cc e)

reason_own : (text : List ℕ) (a : Reason) → reason_of text ≡ Some a → text ≡ reason_text a
unfolding reason_of
reason_own text a e =
    reason_at text (bytes_eq text (reason_text TestedOut)) (bytes_eq text (reason_text EquivalentAu)) (bytes_eq text (reason_text EquivalentOutsideActivity)) (bytes_eq text (reason_text Administrative)) a refl refl refl refl e

mode_utf8 : (a : Mode) → IsUtf8 (mode_text a)
mode_utf8 Normal = IsUtf8-small (mode_text Normal) refl
mode_utf8 Browse = IsUtf8-small (mode_text Browse) refl
mode_utf8 Review = IsUtf8-small (mode_text Review) refl

reason_utf8 : (a : Reason) → IsUtf8 (reason_text a)
reason_utf8 TestedOut = IsUtf8-small (reason_text TestedOut) refl
reason_utf8 EquivalentAu = IsUtf8-small (reason_text EquivalentAu) refl
reason_utf8 EquivalentOutsideActivity = IsUtf8-small (reason_text EquivalentOutsideActivity) refl
reason_utf8 Administrative = IsUtf8-small (reason_text Administrative) refl

how_utf8 : (a : How) → IsUtf8 (how_text a)
how_utf8 how.Put = IsUtf8-small (how_text how.Put) refl
how_utf8 how.Post = IsUtf8-small (how_text how.Post) refl

-- ---- the fields

abbrev word_value : {A : Type 0} → (A → List ℕ) → A → Value
word_value spelling a = text_value (spelling a)

unread : {A : Type 0} (spelling : A → List ℕ) → ((a : A) → IsUtf8 (spelling a)) → (front old new own : List ℕ) (e : Stop) → ReadsField front text_value old (Err e) new → ReadsField front (word_value spelling) old (Err e) own
unread spelling utf8 front old new own e = unspelled front spelling (λ a. Unit {0}) (IsKeptValue (word_value spelling)) old new own e (λ a is. (tt, utf8 a))

read : {A : Type 0} (spelling : A → List ℕ) (of : List ℕ → Option A) → ((a : A) → IsUtf8 (spelling a)) → ((a : A) → of (spelling a) ≡ Some a) → ((text : List ℕ) (a : A) → of text ≡ Some a → text ≡ spelling a)
    → (front old new text given : List ℕ) (found : Option A) (r : Result A Stop) → given ≡ text → ReadsField front text_value old (Ok text) new → found ≡ of given → r ≡ ok_or found Bad
    → ReadsField front (word_value spelling) old r new
read spelling of utf8 back own front old new text given found r lent reads is made =
    subst (λ z. ReadsField front (word_value spelling) old z new) (sym made)
    (spelled front spelling (λ a. Unit {0}) (IsKeptValue (word_value spelling)) old new text given (ok_or found Bad) (λ a is utf8. (utf8, tt)) (λ a is. (tt, utf8 a)) lent reads
    (word_spelled spelling of given found back (own given) is))

pub mode_unread : (front old new own : List ℕ) (e : Stop) → ReadsField front text_value old (Err e) new → ReadsField front mode_value old (Err e) own
mode_unread = unread mode_text mode_utf8

pub mode_read : (front old new text given : List ℕ) (found : Option Mode) (r : Result Mode Stop) → given ≡ text → ReadsField front text_value old (Ok text) new → found ≡ mode_of given → r ≡ ok_or found Bad
    → ReadsField front mode_value old r new
mode_read = read mode_text mode_of mode_utf8 read_mode mode_own

pub reason_unread : (front old new own : List ℕ) (e : Stop) → ReadsField front text_value old (Err e) new → ReadsField front reason_value old (Err e) own
reason_unread = unread reason_text reason_utf8

pub reason_read : (front old new text given : List ℕ) (found : Option Reason) (r : Result Reason Stop) → given ≡ text → ReadsField front text_value old (Ok text) new → found ≡ reason_of given → r ≡ ok_or found Bad
    → ReadsField front reason_value old r new
reason_read = read reason_text reason_of reason_utf8 read_reason reason_own

pub how_unread : (front old new own : List ℕ) (e : Stop) → ReadsField front text_value old (Err e) new → ReadsField front how_value old (Err e) own
how_unread = unread how_text how_utf8

pub how_read : (front old new text given : List ℕ) (found : Option How) (r : Result How Stop) → given ≡ text → ReadsField front text_value old (Ok text) new → found ≡ how_of given → r ≡ ok_or found Bad
    → ReadsField front how_value old r new
how_read = read how_text how_of how_utf8 read_how how_own
