-- What a head means: the request that it begins, or why there is none (RFC 9112, sections 3 and 6).
use Rattle.std.specs.Prelude.{ℕ, nat_lt, ◌==◌, ◌&&◌, ◌||◌, Bool, true, false, List, map, length, Option, Some, None}
use Rattle.std.specs.Prelude.{Result, Ok, Err, if◌then◌else◌, is_some, codes}
use Rattle.std.specs.List.{before_first, after_first, position_or_len}
use Rattle.std.specs.Option.{option_map_or}
use Rattle.std.specs.Str.Parse.{digits_value}
use Rattle.httparse.specs.Grammar.{RequestHead}
use Rattle.httparse.specs.Spans.{name_and_value}
use Rattle.lrs_http.specs.declared.request.Method.{Method}
use Rattle.lrs_http.specs.declared.request.Method.TheVariants as method
use Rattle.lrs_http.specs.declared.request.Request.{Request}
use Rattle.lrs_http.specs.declared.request.RequestRefused.{RequestRefused}
use Rattle.lrs_http.specs.declared.request.RequestRefused.TheVariants as refused
use Rattle.lrs_http.specs.Fields.{NameAndValue, first_value, count_named, asks_to_close, is_length, is_text}
use Rattle.lrs_http.specs.declared.fields.TheConstants.{LONGEST_BODY}
use Rattle.lrs_http.specs.declared.heads.TheConstants.{MOST_FIELDS}
use Rattle.std.specs.Str.{bytes_eq}

-- what counts of a head
pub record HeadParts : Type 0 where
  pub method : List ℕ
  pub target : List ℕ
  -- 0 in HTTP/1.0, 1 in HTTP/1.1
  pub minor : ℕ
  pub fields : List NameAndValue

unfoldable pub parts_of : RequestHead → HeadParts
parts_of head =
    record { method = head.method; target = head.target; minor = head.minor; fields = map name_and_value head.fields }

-- methods are compared in their case
unfoldable pub method_of : List ℕ → Method
method_of name =
    if bytes_eq name (codes "GET") then method.Get else (
    if bytes_eq name (codes "PUT") then method.Put else (
    if bytes_eq name (codes "POST") then method.Post else (
    if bytes_eq name (codes "DELETE") then method.Delete else method.Other)))

abbrev pub is_question_mark : ℕ → Bool
is_question_mark b = b == 63

-- the target before its first question mark, and what follows it
unfoldable pub path_of : List ℕ → List ℕ
path_of target = before_first is_question_mark target

unfoldable pub query_of : List ℕ → Option (List ℕ)
query_of target =
    if nat_lt (position_or_len is_question_mark target) (length target) then Some (after_first is_question_mark target)
    else None

-- a response to HTTP/1.0 is the connection's last, and so is one to a request whose first `Connection` field asks for
-- it
unfoldable pub closes_of : ℕ → List NameAndValue → Bool
closes_of minor fields = minor == 0 || option_map_or asks_to_close (first_value (codes "connection") fields) false

-- the request of a head and a body
unfoldable pub request_of : HeadParts → List ℕ → Request
request_of parts body = record {
  method = method_of parts.method;
  path = path_of parts.target;
  query = query_of parts.target;
  version = first_value (codes "x-experience-api-version") parts.fields;
  credential = first_value (codes "authorization") parts.fields;
  media = first_value (codes "content-type") parts.fields;
  closes = closes_of parts.minor parts.fields;
  body = body;
}

-- the values that are kept as texts are texts
unfoldable pub has_texts : List NameAndValue → Bool
has_texts fields =
    is_text (first_value (codes "authorization") fields)
    && (is_text (first_value (codes "content-type") fields)
    && is_text (first_value (codes "x-experience-api-version") fields))

-- a length is asked for
abbrev pub wants_length : Method → Bool
wants_length method.Put = true
wants_length method.Post = true
wants_length m = false

-- the length that a field gives, or is to give
unfoldable pub stated_length : Method → Option (List ℕ) → Result ℕ RequestRefused
stated_length m None = if wants_length m then Err refused.NoLength else Ok 0
stated_length m (Some value) =
    if is_length value
    then (if nat_lt LONGEST_BODY (digits_value 10 value) then Err refused.BodyTooLong else Ok (digits_value 10 value))
    else Err (refused.Malformed 2)

-- the length of the body after a head (RFC 9112, section 6.3)
unfoldable pub body_length : Method → List NameAndValue → Result ℕ RequestRefused
body_length m fields =
    if is_some (first_value (codes "transfer-encoding") fields) then Err refused.Coded else (
    if nat_lt 1 (count_named (codes "content-length") fields) then Err (refused.Malformed 2) else
    stated_length m (first_value (codes "content-length") fields))

-- the length of the body that a head announces, if the head is in order
unfoldable pub announced : HeadParts → Result ℕ RequestRefused
announced parts =
    if nat_lt MOST_FIELDS (length parts.fields) then Err refused.HeadTooLong else (
    if has_texts parts.fields then body_length (method_of parts.method) parts.fields else Err (refused.Malformed 1))
