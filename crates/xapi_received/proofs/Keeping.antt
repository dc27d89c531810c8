-- The members of a statement, of which some are kept and others left out.
use Rattle.std.proofs.Common.{◌≡◌, ◌+◌, ◌<◌, ℕ, length, get_or, List, [], ◌∷◌, ◌++◌, drop, nat_lt, Bool, true, false, ◌||◌, codes, Option, Some, None, if◌then◌else◌, refl, sym, ap, subst, ◌∙◌, append_assoc}
use Rattle.std.specs.Prelude.{IsUtf8, option_map, unwrap_or}
use Rattle.std.specs.Option.{option_or}
use Rattle.std.specs.Str.{bytes_eq}
use Rattle.std.proofs.lemmas.Bool.{true≢false}
use Rattle.std.proofs.lemmas.Cmp.{nat_list_eq_equiv}
use Rattle.std.proofs.lemmas.List.{append-nil}
use Rattle.lrs_json.specs.Find.{find_member}
use Rattle.lrs_json.specs.Json.{Json, Members, no_members, member}
use Rattle.lrs_json.specs.Spellable.{IsSpellable}
use Rattle.lrs_json.specs.Texts.{member_text}
use Rattle.lrs_json.specs.View.{view}
use Rattle.lrs_json.specs.Written.{comma_if, members_text, quoted, written}
use Rattle.lrs_json.specs.declared.tree.Member.{Member}
use Rattle.lrs_json.proofs.Steps.{later_on}
use Rattle.xapi_format.specs.LrsNamesMembers.{is_one_of}
use Rattle.xapi_format.specs.Completed.{added_names, kept_before, plural_member}
use Rattle.xapi_received.specs.Marking.{AddsText, IsFirst, MarksMember, SoFar, shown_text}
use Rattle.xapi_received.specs.Received.{IsWithin, bytes_at, span_after}
use Rattle.xapi_received.specs.declared.draft.Draft.{Draft}
use Rattle.xapi_received.specs.declared.marks.Ending.{Ending}
use Rattle.xapi_received.specs.declared.marks.ByteSpan.{ByteSpan}
use Rattle.xapi_format.proofs.Appending.{member_more}
use Rattle.xapi_received.proofs.Drafting.{adds_as, adds_both, nothing_added}
use Rattle.xapi_received.proofs.Left.{first_left}
use Rattle.xapi_received.proofs.Memberwise.{seen}
use Rattle.xapi_received.proofs.Spans.{given_grown, has_grown, span_grown}

-- ---- the comma before a member

-- where others stand in the text and none is shown, it is left out
pub comma_left : (stands later : Bool) (a b : Draft) → stands ≡ true → later ≡ false → AddsText (44 ∷ []) [] a b → AddsText (comma_if stands) (comma_if later) a b
comma_left stands later a b s l left =
    subst (λ (t : Bool). AddsText (comma_if t) (comma_if later) a b) (sym s) (subst (λ (t : Bool). AddsText (44 ∷ []) (comma_if t) a b) (sym l) left)

pub comma_put : (stands later : Bool) (a b : Draft) → later ≡ true → (later ≡ true → stands ≡ true) → AddsText (44 ∷ []) (44 ∷ []) a b → AddsText (comma_if stands) (comma_if later) a b
comma_put stands later a b l ordered put =
    subst (λ (t : Bool). AddsText (comma_if t) (comma_if later) a b) (sym (ordered l)) (subst (λ (t : Bool). AddsText (44 ∷ []) (comma_if t) a b) (sym l) put)

pub no_comma : (stands later : Bool) (d : Draft) → stands ≡ false → later ≡ false → AddsText (comma_if stands) (comma_if later) d d
no_comma stands later d s l =
    subst (λ (t : Bool). AddsText (comma_if t) (comma_if later) d d) (sym s) (subst (λ (t : Bool). AddsText [] (comma_if t) d d) (sym l) (nothing_added d))

comma_and_member : (later : Bool) (name : List ℕ) (j : Json) → comma_if later ++ member_text false name j ≡ member_text later name j
comma_and_member later name j = sym (append_assoc (comma_if later) (quoted name) (58 ∷ written j))

pub kept_marked : (stands later : Bool) (name : List ℕ) (j changed : Json) (a b d : Draft) → AddsText (comma_if stands) (comma_if later) a b → MarksMember false false name j changed b d → MarksMember stands later name j changed a d
kept_marked stands later name j changed a b d comma n = record {
  utf8 = n.utf8;
  spellable = n.spellable;
  adds = adds_as a d (comma_if stands ++ member_text false name j) (member_text stands name j) (comma_if later ++ member_text false name changed) (member_text later name changed)
      (comma_and_member stands name j) (comma_and_member later name changed)
      (adds_both a b d (comma_if stands) (member_text false name j) (comma_if later) (member_text false name changed) comma n.adds);
}

-- ---- the first value of a name

first_kept : (text more name : List ℕ) (span : Option ByteSpan) (all : Members) (k : List ℕ) (j : Json) (ms : Members) → bytes_eq k name ≡ false → IsFirst text name span all (member k j ms) → IsFirst (text ++ more) name span all ms
first_kept text more name span all k j ms other f = (
  has_grown text more span f.0,
  f.1 ∙ ap (λ (b : Bool). option_or (option_map (bytes_at text) span) (option_map written (if b then Some j else find_member name ms))) other
      ∙ ap (λ (o : Option (List ℕ)). option_or o (option_map written (find_member name ms))) (sym (given_grown text more span f.0)),
)

first_passed : (text more name : List ℕ) (span : Option ByteSpan) (all : Members) (k : List ℕ) (j : Json) (ms : Members) (at : ByteSpan) (b : Bool) → bytes_eq k name ≡ b → IsWithin (length (text ++ more)) at
    → bytes_at (text ++ more) at ≡ written j → IsFirst text name span all (member k j ms) → IsFirst (text ++ more) name (if b then Some (unwrap_or span at) else span) all ms
first_passed text more name span all k j ms at false other within value f = first_kept text more name span all k j ms other f
first_passed text more name None all k j ms at true same within value f =
    (within, f.1 ∙ ap (λ (b : Bool). option_map written (if b then Some j else find_member name ms)) same ∙ ap (λ (t : List ℕ). Some t) (sym value))
first_passed text more name (Some p) all k j ms at true same within value f = (has_grown text more (Some p) f.0, f.1 ∙ ap (λ (t : List ℕ). Some t) (sym (span_grown text more p f.0)))

first_left_out : (text after more name : List ℕ) (span next : Option ByteSpan) (all : Members) (k : List ℕ) (j : Json) (ms : Members) (at : ByteSpan) → after ≡ text ++ more → next ≡ span_after name k at span
    → IsWithin (length after) at → bytes_at after at ≡ written j → IsFirst text name span all (member k j ms) → IsFirst after name next all ms
first_left_out text after more name span next all k j ms at is next_is within value f =
    let there : IsWithin (length (text ++ more)) at = subst (λ (t : List ℕ). IsWithin (length t) at) is within in
    let value_is : bytes_at (text ++ more) at ≡ written j = subst (λ (t : List ℕ). bytes_at t at ≡ written j) is value in
    subst (λ (o : Option ByteSpan). IsFirst after name o all ms) (sym next_is)
    (subst (λ (t : List ℕ). IsFirst t name (span_after name k at span) all ms) (sym is) (first_passed text more name span all k j ms at (bytes_eq k name) refl there value_is f))

first_stays : (text after more name : List ℕ) (span : Option ByteSpan) (all : Members) (k : List ℕ) (j : Json) (ms : Members) → after ≡ text ++ more → bytes_eq name k ≡ false → IsFirst text name span all (member k j ms)
    → IsFirst after name span all ms
first_stays text after more name span all k j ms is other f =
    let apart : bytes_eq k name ≡ false = nat_list_eq_equiv.symm k name ∙ other in
    subst (λ (t : List ℕ). IsFirst t name span all ms) (sym is) (first_kept text more name span all k j ms apart f)

-- ---- one member more

none_of : (a b d e f : Bool) → (a || (b || (d || (e || (f || false))))) ≡ false → (b ≡ false) × (f ≡ false)
none_of true b d e f is = absurd (true≢false is)
none_of false true d e f is = absurd (true≢false is)
none_of false false true e f is = absurd (true≢false is)
none_of false false false true f is = absurd (true≢false is)
none_of false false false false true is = absurd (true≢false is)
none_of false false false false false is = (refl, refl)

-- a kept name is neither that of the time nor that of the version
neither : (k : List ℕ) → is_one_of added_names k ≡ false → (bytes_eq (codes "timestamp") k ≡ false) × (bytes_eq (codes "version") k ≡ false)
neither k is = none_of (bytes_eq (codes "id") k) (bytes_eq (codes "timestamp") k) (bytes_eq (codes "stored") k) (bytes_eq (codes "authority") k) (bytes_eq (codes "version") k) is

pub so_far_first : (all : Members) (d : Draft) → SoFar all d false all d (record { later = false; timestamp = None; version = None })
so_far_first all d = record {
  writes = refl;
  shows = λ sound. (sound, λ behind. refl);
  spellable = λ rest. rest;
  ordered = λ e. e;
  timestamp = (tt, refl);
  version = (tt, refl);
}

pub so_far_kept : (all ms : Members) (start now next : Draft) (stands : Bool) (ending : Ending) (k : List ℕ) (j : Json) → is_one_of added_names k ≡ false
    → ((ending.later ≡ true → stands ≡ true) → MarksMember stands ending.later k j (plural_member k j) now next) → SoFar all start stands (member k j ms) now ending
    → SoFar all start true ms next (record { later = true; timestamp = ending.timestamp; version = ending.version })
so_far_kept all ms start now next stands ending k j kept marked so =
    let n = marked so.ordered in
    let apart = neither k kept in record {
      writes = member_more k j ms stands now.text.items next.text.items (start.text.items ++ members_text false all) n.adds.writes so.writes;
      shows = λ sound.
          let before = so.shows sound in
          let after = n.adds.shows before.0 in (
            after.0,
            λ behind. member_more k (plural_member k j) (kept_before ms behind) ending.later (shown_text now) (shown_text next) (shown_text start ++ members_text false (kept_before all behind)) after.1
                (sym (ap (λ (b : Bool). shown_text now ++ members_text ending.later (if b then kept_before ms behind else member k (plural_member k j) (kept_before ms behind))) kept) ∙ before.1 behind),
          );
      spellable = λ rest. so.spellable (n.utf8, n.spellable, rest);
      ordered = λ e. refl;
      timestamp = first_stays now.text.items next.text.items (member_text stands k j) (codes "timestamp") ending.timestamp all k j ms n.adds.writes apart.0 so.timestamp;
      version = first_stays now.text.items next.text.items (member_text stands k j) (codes "version") ending.version all k j ms n.adds.writes apart.1 so.version;
    }

pub so_far_left : (all ms : Members) (start now next : Draft) (stands : Bool) (ending after : Ending) (k : List ℕ) (j : Json) (at : ByteSpan) → is_one_of added_names k ≡ true → AddsText (member_text stands k j) [] now next
    → IsWithin (length next.text.items) at → bytes_at next.text.items at ≡ written j → IsUtf8 k → IsSpellable j → after.later ≡ ending.later
    → after.timestamp ≡ span_after (codes "timestamp") k at ending.timestamp → after.version ≡ span_after (codes "version") k at ending.version
    → SoFar all start stands (member k j ms) now ending → SoFar all start true ms next after
so_far_left all ms start now next stands ending after k j at is_added a within value utf8 spellable later_is timestamp_is version_is so = record {
  writes = member_more k j ms stands now.text.items next.text.items (start.text.items ++ members_text false all) a.writes so.writes;
  shows = λ sound.
      let before = so.shows sound in
      let behind_it = a.shows before.0 in (
        behind_it.0,
        λ behind. ap (λ (t : List ℕ). t ++ members_text after.later (kept_before ms behind)) (behind_it.1 ∙ append-nil (shown_text now))
            ∙ ap (λ (b : Bool). shown_text now ++ members_text b (kept_before ms behind)) later_is
            ∙ sym (ap (λ (b : Bool). shown_text now ++ members_text ending.later (if b then kept_before ms behind else member k (plural_member k j) (kept_before ms behind))) is_added) ∙ before.1 behind,
      );
  spellable = λ rest. so.spellable (utf8, spellable, rest);
  ordered = λ e. refl;
  timestamp = first_left_out now.text.items next.text.items (member_text stands k j) (codes "timestamp") ending.timestamp after.timestamp all k j ms at a.writes timestamp_is within value so.timestamp;
  version = first_left_out now.text.items next.text.items (member_text stands k j) (codes "version") ending.version after.version all k j ms at a.writes version_is within value so.version;
}

-- ---- the loop over them

pub so_far_step : (ms : List Member) (start now next : Draft) (ending after : Ending) (i : ℕ) (m : Member) → i < length ms → m ≡ get_or ms i m → SoFar (seen ms) start (nat_lt 0 i) (seen (drop i ms)) now ending
    → ((all us : Members) (from : Draft) → SoFar all from (nat_lt 0 i) (member m.name (view m.value) us) now ending → SoFar all from true us next after)
    → SoFar (seen ms) start (nat_lt 0 (i + 1)) (seen (drop (i + 1) ms)) next after
so_far_step ms start now next ending after i m lt at so one =
    subst (λ (b : Bool). SoFar (seen ms) start b (seen (drop (i + 1) ms)) next after) (sym (later_on i))
    (one (seen ms) (seen (drop (i + 1) ms)) start (subst (λ (us : Members). SoFar (seen ms) start (nat_lt 0 i) us now ending) (first_left ms i m lt at) so))

pub so_far_last : (all : Members) (left : List Member) (start now : Draft) (stands : Bool) (ending : Ending) → left ≡ [] → SoFar all start stands (seen left) now ending → SoFar all start true no_members now ending
so_far_last all left start now stands ending none so =
    let last : SoFar all start stands no_members now ending = subst (λ (us : List Member). SoFar all start stands (seen us) now ending) none so in record {
      writes = last.writes;
      shows = last.shows;
      spellable = last.spellable;
      ordered = λ e. refl;
      timestamp = last.timestamp;
      version = last.version;
    }
