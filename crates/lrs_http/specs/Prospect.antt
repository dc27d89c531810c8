-- What the first bytes of a stream are to a reader of heads.
use Rattle.std.specs.Prelude.{◌≡◌, ◌≤◌, ℕ, List, ◌++◌, drop, length, map, take}
use Rattle.httparse.specs.declared.spans.HeaderSpan.{HeaderSpan}
use Rattle.httparse.specs.declared.spans.RequestSpans.{RequestSpans}
use Rattle.httparse.specs.Grammar.{RequestHead, ReadsRequest, HasNoRequest, MayBecomeRequest}
use Rattle.httparse.specs.Spans.{IsRequestWithin, IsRequestAt, span_bytes, header_bytes}
use Rattle.lrs_http.specs.declared.heads.Prospect.{Prospect}
use Rattle.lrs_http.specs.declared.heads.Prospect.TheVariants.{Whole, Crowded, Open, Doubtful, Never}
use Rattle.lrs_http.specs.declared.request.RequestRefused.{RequestRefused}
use Rattle.lrs_http.specs.declared.request.RequestRefused.TheVariants as refused
use Rattle.lrs_http.specs.Head.{HeadParts, parts_of}
use Rattle.lrs_http.specs.Stream.{stands, IsFront, IsItem, window}
use Rattle.std.specs.Prelude.{Err, ⊤, [], ◌<◌, Bool, true, false}
use Rattle.lrs_http.specs.declared.heads.TheConstants.{LONGEST_HEAD, MOST_FIELDS}

-- what a look at the bytes says
abbrev pub IsProspect : List ℕ → List HeaderSpan → Prospect → Type 0
IsProspect bytes fields (Whole spans) =
    IsRequestWithin bytes fields spans × ((head : RequestHead) × IsRequestAt bytes fields spans head)
IsProspect bytes fields Crowded = (head : RequestHead) × (rest : List ℕ) × ReadsRequest bytes head rest
    × (MOST_FIELDS < length head.fields)
IsProspect bytes fields Open = HasNoRequest bytes × MayBecomeRequest bytes
IsProspect bytes fields Doubtful = HasNoRequest bytes × ¬ (MayBecomeRequest bytes)
IsProspect bytes fields Never = (more : List ℕ) → HasNoRequest (bytes ++ more) × ¬ (MayBecomeRequest (bytes ++ more))

-- the parts of the head that spans cover
unfoldable pub parts_at : List ℕ → List HeaderSpan → RequestSpans → HeadParts
parts_at bytes fields spans = record {
  method = span_bytes bytes spans.method;
  target = span_bytes bytes spans.path;
  minor = spans.version;
  fields = map (header_bytes bytes) (take spans.headers fields);
}

-- the spans cover a head at the beginning of the bytes, whatever follows them
pub record IsHeadAt (bytes : List ℕ) (fields : List HeaderSpan) (spans : RequestSpans) : Type 0 where
  pub within : IsRequestWithin (window bytes) fields spans
  pub head : RequestHead
  pub few : length head.fields ≤ MOST_FIELDS
  pub parts : parts_at (window bytes) fields spans ≡ parts_of head
  pub front : (more : List ℕ) → IsFront (bytes ++ more) (stands head (drop spans.len (bytes ++ more)))

-- whatever follows the bytes, this is the answer; running out of memory is free
abbrev pub IsRequestRefused : List ℕ → RequestRefused → Type 0
IsRequestRefused bytes refused.Memory = ⊤
IsRequestRefused bytes refused.LinkFault = ⊥
IsRequestRefused bytes refusal = (more : List ℕ) → IsItem (bytes ++ more) (Err refusal)

-- the same if the stream ends after the bytes and they are fewer than a head may have
abbrev pub IsJudged : List ℕ → RequestRefused → Type 0
IsJudged bytes refused.Memory = ⊤
IsJudged bytes refused.LinkFault = ⊥
IsJudged bytes refusal = (more : List ℕ) → (length bytes < LONGEST_HEAD → more ≡ [])
    → IsItem (bytes ++ more) (Err refusal)

-- why bytes are refused that are fewer than a head may have, are empty lines alone, or may become a head
abbrev pub refusal_for : Bool → Bool → Bool → RequestRefused
refusal_for true true may_become = refused.End
refusal_for true false true = refused.Cut
refusal_for true false false = refused.Malformed 1
refusal_for false blank true = refused.HeadTooLong
refusal_for false blank false = refused.Malformed 1
