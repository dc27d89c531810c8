-- A received text beside marks, by which the text of its completed form is found in it: excerpts of the text, and where
-- the values stand that were given for what the store adds.
use Rattle.std.specs.Prelude.{◌≡◌, ◌≤◌, ◌++◌, ℕ, List, [], ◌∷◌, length, slice_range, codes, if◌then◌else◌}
use Rattle.std.specs.Prelude.{Option, Some, None, option_map, unwrap_or}
use Rattle.std.specs.List.{flat_map}
use Rattle.std.specs.Str.{bytes_eq}
use Rattle.lrs_json.specs.Find.{find}
use Rattle.lrs_json.specs.Json.{Json, Members}
use Rattle.lrs_json.specs.Spellable.{IsSpellable}
use Rattle.lrs_json.specs.View.{view}
use Rattle.lrs_json.specs.Written.{members_text, written, written_tree}
use Rattle.lrs_json.specs.declared.tree.Tree.{Tree, Null}
use Rattle.xapi_format.specs.Completed.{added, completed}
use Rattle.xapi_received.specs.declared.marks.Bracket.{Bracket}
use Rattle.xapi_received.specs.declared.marks.Bracket.TheVariants.{Absent, Opening, Closing}
use Rattle.xapi_received.specs.declared.marks.Ending.{Ending}
use Rattle.xapi_received.specs.declared.marks.Excerpt.{Excerpt}
use Rattle.xapi_received.specs.declared.marks.ByteSpan.{ByteSpan}

-- ---- spans and excerpts of a text

-- the span lies in a text of that length
abbrev pub IsWithin : ℕ → ByteSpan → Type 0
IsWithin n span = (span.start ≤ span.end) × (span.end ≤ n)

-- so does this one, if there is one
abbrev pub HasSpan : ℕ → Option ByteSpan → Type 0
HasSpan n None = Unit {0}
HasSpan n (Some span) = IsWithin n span

-- so does each of these
abbrev pub AreWithin : ℕ → List Excerpt → Type 0
AreWithin n [] = Unit {0}
AreWithin n (excerpt ∷ excerpts) = IsWithin n excerpt.span × AreWithin n excerpts

abbrev pub bytes_at : List ℕ → ByteSpan → List ℕ
bytes_at text span = slice_range text span.start span.end

abbrev pub bracket_text : Bracket → List ℕ
bracket_text Absent = []
bracket_text Opening = codes "["
bracket_text Closing = codes "]"

abbrev pub excerpt_text : List ℕ → Excerpt → List ℕ
excerpt_text text excerpt = bytes_at text excerpt.span ++ bracket_text excerpt.bracket

-- what the excerpts show
abbrev pub excerpts_text : List ℕ → List Excerpt → List ℕ
excerpts_text text excerpts = flat_map (excerpt_text text) excerpts

-- ---- what the store adds

-- the span of the first value of the wanted name, after one more value of that other name
abbrev pub span_after : List ℕ → List ℕ → ByteSpan → Option ByteSpan → Option ByteSpan
span_after wanted name span before = if bytes_eq name wanted then Some (unwrap_or before span) else before

-- the value that was given under the name stands at the span, and there is none if none was given
abbrev pub IsGiven : List ℕ → List ℕ → Json → Option ByteSpan → Type 0
IsGiven text name received span =
    HasSpan (length text) span × (option_map (bytes_at text) span ≡ option_map written (find name received))

-- the spans lie in a text of that length
abbrev pub HasSpans : ℕ → Ending → Type 0
HasSpans n ending = HasSpan n ending.timestamp × HasSpan n ending.version

-- they are those of what was given
abbrev pub AreGiven : List ℕ → Json → Ending → Type 0
AreGiven text received ending =
    IsGiven text (codes "timestamp") received ending.timestamp × IsGiven text (codes "version") received ending.version

-- To a value that is no object nothing is added.
abbrev pub HasEnding : ℕ → Option Ending → Type 0
HasEnding n None = Unit {0}
HasEnding n (Some ending) = HasSpans n ending

abbrev pub EndsAs : List ℕ → Json → Option Ending → Type 0
EndsAs text received None = Unit {0}
EndsAs text received (Some ending) = AreGiven text received ending

-- these members with the closing brace, after the members that are kept
abbrev pub ending_text : Option Ending → Members → List ℕ
ending_text None behind = []
ending_text (Some ending) behind = members_text ending.later behind

-- ---- the whole

-- The text is the written form of the tree. Under each id, moment and authority the excerpts and what is added behind
-- them are the written form of the completed value.
pub record IsReceived (text : List ℕ) (excerpts : List Excerpt) (ending : Option Ending) (tree : Tree) : Type 0 where
  pub spellable : IsSpellable (view tree)
  pub spelled : text ≡ written_tree tree
  pub within : AreWithin (length text) excerpts
  pub given : EndsAs text (view tree) ending
  pub whole : (id stored : List ℕ) (authority : Json)
      → excerpts_text text excerpts ++ ending_text ending (added (view tree) id stored authority)
      ≡ written (completed (view tree) id stored authority)

-- the tree of which a note was made
abbrev pub tree_in : List Tree → Tree
tree_in [] = Null
tree_in (tree ∷ trees) = tree
