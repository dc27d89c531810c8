-- The marks of a text that is written whole, and what is read off them.
use Rattle.std.proofs.Common.{◌≡◌, ◌≤◌, ℕ, length, List, [], ◌∷◌, ◌++◌, drop, true, false, codes, Option, Some, None, refl, sym, ap, subst, ◌∙◌, arith, append_assoc}
use Rattle.std.specs.Prelude.{Result, Ok, Err, IfOk, option_map, unwrap_or}
use Rattle.std.specs.Option.{option_or}
use Rattle.std.proofs.Math.Seq.{drop-length}
use Rattle.std.proofs.lemmas.List.{append-nil}
use Rattle.lrs_json.specs.Find.{find}
use Rattle.lrs_json.specs.Json.{Json, null, boolean, number, string, array, object, Members, no_members}
use Rattle.lrs_json.specs.Parts.{members_in}
use Rattle.lrs_json.specs.Spellable.{IsSpellable}
use Rattle.lrs_json.specs.Texts.{member_text, name_text}
use Rattle.lrs_json.specs.View.{view}
use Rattle.lrs_json.specs.Written.{members_text, quoted, written, written_tree}
use Rattle.lrs_json.specs.declared.memory.Memory.{Memory}
use Rattle.lrs_json.specs.declared.tree.Tree.{Tree}
use Rattle.xapi_format.specs.Completed.{added, completed, given_or, kept_before}
use Rattle.xapi_received.specs.Marking.{AddsText, Completes, IsFirst, IsSoundDraft, Marks, SoFar, shown_text}
use Rattle.xapi_received.specs.Excerpts.{listed}
use Rattle.xapi_received.specs.Received.{AreWithin, EndsAs, HasEnding, IsGiven, IsReceived, bytes_at, ending_text, excerpts_text}
use Rattle.xapi_received.specs.declared.draft.Draft.{Draft}
use Rattle.xapi_received.specs.declared.marks.Ending.{Ending}
use Rattle.xapi_received.specs.declared.marks.Excerpt.{Excerpt}
use Rattle.xapi_received.specs.declared.marks.ByteSpan.{ByteSpan}
use Rattle.xapi_format.proofs.Appending.{member_parts}
use Rattle.xapi_received.proofs.Spans.{given_grown, has_grown}

abbrev no_bytes : List ℕ
no_bytes = []

-- ---- what was given

nothing_after : (o : Option (List ℕ)) → option_or o None ≡ o
nothing_after None = refl
nothing_after (Some t) = refl

given_last : (text after more name : List ℕ) (span : Option ByteSpan) (ms : Members) → after ≡ text ++ more → IsFirst text name span ms no_members → IsGiven after name (object ms) span
given_last text after more name span ms is f =
    subst (λ (t : List ℕ). IsGiven t name (object ms) span) (sym is)
    (has_grown text more span f.0, given_grown text more span f.0 ∙ sym (f.1 ∙ nothing_after (option_map (bytes_at text) span)))

-- the bytes at the span, else this text as a string
abbrev pub value_at : List ℕ → Option ByteSpan → List ℕ → List ℕ
value_at text span otherwise = unwrap_or (option_map (bytes_at text) span) (quoted otherwise)

written_or : (o : Option Json) (otherwise : List ℕ) → unwrap_or (option_map written o) (quoted otherwise) ≡ written (unwrap_or o (string otherwise))
written_or None otherwise = refl
written_or (Some j) otherwise = refl

-- the bytes at its span are the value that was given, else the text stands
pub value_is : (text name otherwise : List ℕ) (received : Json) (span : Option ByteSpan) → IsGiven text name received span → value_at text span otherwise ≡ written (given_or name received otherwise)
value_is text name otherwise received span given =
    ap (λ (o : Option (List ℕ)). unwrap_or o (quoted otherwise)) given.1 ∙ written_or (find name received) otherwise

-- its name and the bytes at its span, or the text, are the member
pub given_member : (text name otherwise : List ℕ) (received : Json) (span found : Option ByteSpan) → span ≡ found → IsGiven text name received span
    → name_text true name ++ value_at text found otherwise ≡ member_text true name (given_or name received otherwise)
given_member text name otherwise received span found is given =
    ap (λ (o : Option ByteSpan). name_text true name ++ value_at text o otherwise) (sym is)
    ∙ (ap (λ (t : List ℕ). name_text true name ++ t) (value_is text name otherwise received span given) ∙ member_parts true name (given_or name received otherwise))

-- ---- the whole

pub whole_object : (ms : Members) (a b d e : Draft) (ending : Ending) → AddsText (123 ∷ []) (123 ∷ []) a b → SoFar ms b true no_members d ending → AddsText (125 ∷ []) [] d e → e.from ≡ length e.text.items
    → Completes (object ms) (Some ending) a e
unfolding completed
whole_object ms a b d e ending opened so closed ends = record {
  spellable = so.spellable tt;
  writes = closed.writes ∙ so.writes ∙ ap (λ (t : List ℕ). t ++ members_text false ms) opened.writes ∙ append_assoc a.text.items (123 ∷ []) (members_text false ms);
  ends = ends;
  given = (
    given_last d.text.items e.text.items (125 ∷ []) (codes "timestamp") ending.timestamp ms closed.writes so.timestamp,
    given_last d.text.items e.text.items (125 ∷ []) (codes "version") ending.version ms closed.writes so.version,
  );
  shows = λ sound.
      let one = opened.shows sound in
      let kept = so.shows one.0 in
      let last = closed.shows kept.0 in (
        last.0,
        λ id stored authority.
            let behind : Members = added (object ms) id stored authority in
            ap (λ (t : List ℕ). t ++ members_text ending.later behind) (last.1 ∙ append-nil (shown_text d)) ∙ kept.1 behind
            ∙ ap (λ (t : List ℕ). t ++ members_text false (kept_before ms behind)) one.1 ∙ append_assoc (shown_text a) (123 ∷ []) (members_text false (kept_before ms behind)),
      );
}

stays : (j : Json) (id stored : List ℕ) (authority : Json) → None ≡ members_in j → completed j id stored authority ≡ j
unfolding completed
stays null id stored authority is = refl
stays (boolean b) id stored authority is = refl
stays (number s) id stored authority is = refl
stays (string s) id stored authority is = refl
stays (array js) id stored authority is = refl
stays (object ms) id stored authority is = let bad : ◌≡◌ {A = Option Members} None (Some ms) = is in cc

pub whole_other : (j : Json) (a b d : Draft) → Marks j j a b → AddsText [] [] b d → d.from ≡ length d.text.items → None ≡ members_in j → Completes j None a d
whole_other j a b d n paused ends none = record {
  spellable = n.spellable;
  writes = paused.writes ∙ append-nil b.text.items ∙ n.adds.writes;
  ends = ends;
  given = tt;
  shows = λ sound.
      let one = n.adds.shows sound in
      let last = paused.shows one.0 in (
        last.0,
        λ id stored authority. append-nil (shown_text d) ∙ last.1 ∙ append-nil (shown_text b) ∙ one.1
            ∙ ap (λ (k : Json). shown_text a ++ written k) (sym (stays j id stored authority none)),
      );
}

pub completes_object : (j : Json) (ms : Members) (ending : Option Ending) (a b : Draft) → j ≡ object ms → Completes (object ms) ending a b → Completes j ending a b
completes_object j ms ending a b is whole = subst (λ (k : Json). Completes k ending a b) (sym is) whole

-- ---- received

pub received_at : (text t : List ℕ) (excerpts ps : List Excerpt) (ending : Option Ending) (tree u : Tree) → t ≡ text → ps ≡ excerpts → tree ≡ u → IsReceived text excerpts ending tree → IsReceived t ps ending u
received_at text t excerpts ps ending tree u a b d is =
    subst (λ (v : Tree). IsReceived t ps ending v) d (subst (λ (q : List Excerpt). IsReceived t q ending tree) (sym b) (subst (λ (s : List ℕ). IsReceived s excerpts ending tree) (sym a) is))

module _ (start : Draft) (no_text : start.text.items ≡ []) (no_excerpts : listed start.excerpts ≡ []) (from_start : start.from ≡ 0) where
  nothing_sound : IsSoundDraft start
  nothing_sound = (
    subst (λ (ps : List Excerpt). AreWithin start.from ps) (sym no_excerpts) tt,
    subst (λ (n : ℕ). n ≤ length start.text.items) (sym from_start) (omega arith),
  )

  nothing_shown : shown_text start ≡ []
  nothing_shown =
      ap (λ (ps : List Excerpt). excerpts_text start.text.items ps ++ drop start.from start.text.items) no_excerpts
      ∙ ap (λ (t : List ℕ). drop start.from t) no_text ∙ ap (λ (n : ℕ). drop n no_bytes) from_start

  -- a draft that began with nothing and completes the tree holds its text and its marks
  pub finished : (tree : Tree) (done : Draft) (ending : Option Ending) (text : List ℕ) (excerpts : List Excerpt) → Completes (view tree) ending start done → text ≡ done.text.items → excerpts ≡ listed done.excerpts
      → IsReceived text excerpts ending tree
  finished tree done ending text excerpts c text_is excerpts_are =
      let shown = c.shows nothing_sound in
      let within : AreWithin (length done.text.items) (listed done.excerpts) = subst (λ (n : ℕ). AreWithin n (listed done.excerpts)) c.ends shown.0.0 in
      let all : shown_text done ≡ excerpts_text done.text.items (listed done.excerpts) =
      ap (λ (t : List ℕ). excerpts_text done.text.items (listed done.excerpts) ++ t) (ap (λ (n : ℕ). drop n done.text.items) c.ends ∙ drop-length done.text.items)
      ∙ append-nil (excerpts_text done.text.items (listed done.excerpts)) in
      let is : IsReceived done.text.items (listed done.excerpts) ending tree = record {
        spellable = c.spellable;
        spelled = c.writes ∙ ap (λ (t : List ℕ). t ++ written (view tree)) no_text;
        within = within;
        given = c.given;
        whole = λ id stored authority.
            ap (λ (t : List ℕ). t ++ ending_text ending (added (view tree) id stored authority)) (sym all) ∙ shown.1 id stored authority
            ∙ ap (λ (t : List ℕ). t ++ written (completed (view tree) id stored authority)) nothing_shown;
      } in
      received_at done.text.items text (listed done.excerpts) excerpts ending tree tree text_is excerpts_are refl is

pub ends_within : (text : List ℕ) (received : Json) (ending : Option Ending) → EndsAs text received ending → HasEnding (length text) ending
ends_within text received None given = tt
ends_within text received (Some ending) given = (given.0.0, given.1.0)

-- what is read back of a written form is the tree
pub read_back : (r : Result Tree Memory) (text : List ℕ) (tree : Tree) → IsSpellable (view tree) → text ≡ written_tree tree
    → IfOk r (λ t. (u : Tree) → IsSpellable (view u) → text ≡ written_tree u → t ≡ u) → IfOk r (λ t. t ≡ tree)
read_back (Ok t) text tree spellable is reads = reads tree spellable is
read_back (Err e) text tree spellable is reads = reads
