-- What a whole stream spells: requests one after the other, and how that ends (RFC 9112, sections 2 and 9).
use Rattle.std.specs.Prelude.{◌≡◌, ◌<◌, ◌≤◌, ◌-◌, ◌==◌, ◌||◌, ℕ, Bool, true, false, List, [], ◌∷◌, length, take, drop}
use Rattle.std.specs.Prelude.{nat_lt, Option, Some, None, Result, Ok, Err, if◌then◌else◌, MatchBool}
use Rattle.std.specs.List.{list_all}
use Rattle.httparse.specs.Grammar.{RequestHead, print_request, ReadsRequest, HasNoRequest, MayBecomeRequest}
use Rattle.lrs_http.specs.declared.request.Request.{Request}
use Rattle.lrs_http.specs.declared.request.RequestRefused.{RequestRefused}
use Rattle.lrs_http.specs.declared.request.RequestRefused.TheVariants as refused
use Rattle.lrs_http.specs.Head.{HeadParts, parts_of, announced, request_of}
use Rattle.lrs_http.specs.declared.heads.TheConstants.{LONGEST_HEAD}

-- the bytes in which a head has to stand
abbrev pub window : List ℕ → List ℕ
window stream = take LONGEST_HEAD stream

-- a CR or LF
abbrev pub is_line_end : ℕ → Bool
is_line_end b = b == 13 || b == 10

-- What stands at the beginning of a stream.
pub data StreamFront : Type 0 where
  -- a head, and the bytes after it
  stands : RequestHead → List ℕ → StreamFront
  -- nothing, or empty lines that no head follows
  blank : StreamFront
  -- what no further bytes make a head
  wrong : StreamFront
  -- a head that is too long, or one that the stream's end cuts
  long short : StreamFront

-- nothing is left, or empty lines
abbrev pub IsBlank : List ℕ → Type 0
IsBlank stream = (length stream < LONGEST_HEAD) × (list_all is_line_end stream ≡ true)

-- if no head stands at the beginning, the first of these that holds says what stands there
abbrev pub IsNoHead : List ℕ → StreamFront → Type 0
IsNoHead stream (stands head behind) = ⊥
IsNoHead stream blank = IsBlank stream
IsNoHead stream wrong = ¬ (IsBlank stream) × ¬ (MayBecomeRequest (window stream))
IsNoHead stream long = (LONGEST_HEAD ≤ length stream) × MayBecomeRequest (window stream)
IsNoHead stream short = (length stream < LONGEST_HEAD) × (list_all is_line_end stream ≡ false)
    × MayBecomeRequest (window stream)

abbrev pub IsFront : List ℕ → StreamFront → Type 0
IsFront stream (stands head behind) = ReadsRequest stream head behind × (length (print_request head) ≤ LONGEST_HEAD)
IsFront stream front = HasNoRequest (window stream) × IsNoHead stream front

-- a request and the stream after it, or why there is none
abbrev pub Item : Type 0
Item = Result (Request × List ℕ) RequestRefused

-- the item of a head that is in order, with the length of its body
unfoldable pub item_with : HeadParts → List ℕ → ℕ → Item
item_with parts behind n = if nat_lt (length behind) n then Err refused.Cut
    else Ok (request_of parts (take n behind), drop n behind)

abbrev pub with_body : HeadParts → List ℕ → Result ℕ RequestRefused → Item
with_body parts behind (Ok n) = item_with parts behind n
with_body parts behind (Err refusal) = Err refusal

abbrev pub item_of : StreamFront → Item
item_of (stands head behind) = with_body (parts_of head) behind (announced (parts_of head))
item_of blank = Err refused.End
item_of wrong = Err (refused.Malformed 1)
item_of long = Err refused.HeadTooLong
item_of short = Err refused.Cut

-- what stands next on a stream
abbrev pub IsItem : List ℕ → Item → Type 0
IsItem stream item = (front : StreamFront) × IsFront stream front × (item ≡ item_of front)

-- The requests of a stream, one after the other, and how they end: by a refusal, or with none if the last request is
-- one that ends the connection.
abbrev pub SpellsRequests : ℕ → List ℕ → List Request → Option RequestRefused → Type 0
SpellsRequests most stream [] None = ⊥
SpellsRequests most stream [] (Some refusal) = IsItem stream (Err refusal)
SpellsRequests most stream (request ∷ requests) ending =
    (rest : List ℕ) × IsItem stream (Ok (request, rest))
    × MatchBool (request.closes || most == 1) ((requests ≡ []) × (ending ≡ None))
    (SpellsRequests (most - 1) rest requests ending)
