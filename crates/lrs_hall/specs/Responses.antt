-- The bytes of each response of a conversation.
use Rattle.std.specs.Prelude.{◌≡◌, ℕ, ◌==◌, List, [], Bool, true, Option, Some, None, if◌then◌else◌, codes}
use Rattle.lrs_http.specs.declared.request.RequestRefused.{RequestRefused}
use Rattle.lrs_http.specs.declared.request.RequestRefused.TheVariants as request
use Rattle.lrs_http.specs.Response.{response_of}
use Rattle.lrs_replies.specs.declared.reply.Media.{Media}
use Rattle.lrs_replies.specs.declared.reply.Media.TheVariants.{Json, Own, Empty}
use Rattle.lrs_replies.specs.declared.reply.Reply.{Reply}
use Rattle.lrs_machine.specs.Acts.{Receipt, plain_receipt}
use Rattle.lrs_replies.specs.Replies.{body_bytes, error_body}
use Rattle.lrs_routes.specs.declared.asked.RouteRefused.{RouteRefused}
use Rattle.lrs_routes.specs.declared.asked.RouteRefused.TheVariants as route
use Rattle.lrs_routes.specs.Table.{method_names, methods_of}
use Rattle.lrs_time.specs.Timestamp.{IsMomentText}

abbrev pub media_text : Media → List ℕ
media_text Json = codes "application/json"
media_text (Own text) = text
media_text Empty = []

-- the text of a moment, if there is one
abbrev pub IsThrough : Option ℕ → Option (List ℕ) → Type 0
IsThrough None None = Unit {0}
IsThrough None (Some text) = ⊥
IsThrough (Some moment) None = ⊥
IsThrough (Some moment) (Some text) = IsMomentText moment text

-- the text is that of the reply; with `closes` it says that the connection ends
abbrev pub IsReplyText : Reply → Bool → List ℕ → Type 0
IsReplyText reply closes text =
    (through : Option (List ℕ)) × IsThrough reply.through through
    × (text ≡ response_of reply.status (media_text reply.media) (body_bytes reply.body) through [] closes)

-- A response without an act: its status, the error that its body names, and the methods that it allows.
pub record FixedResponse : Type 0 where
  pub status : ℕ
  pub error : List ℕ
  pub allow : List ℕ

abbrev pub fixed : ℕ → List ℕ → FixedResponse
fixed status error = record { status = status; error = error; allow = [] }

abbrev pub fixed_text : FixedResponse → Bool → List ℕ
fixed_text f closes = response_of f.status (codes "application/json") (error_body f.error []) None f.allow closes

-- out of memory
abbrev pub memory_response : FixedResponse
memory_response = fixed 503 (codes "memory")

-- what a request is answered that the routes refuse
abbrev pub route_response : RouteRefused → FixedResponse
route_response route.NoRoute = fixed 404 (codes "404")
route_response (route.NoMethod allow) =
    record { status = 405; error = codes "405"; allow = method_names (methods_of allow) }
route_response route.NoVersion = fixed 400 (codes "V1")
route_response route.Memory = memory_response

-- rule 1 is the head's form, rule 2 the length's
abbrev pub form_error : ℕ → List ℕ
form_error rule = if rule == 1 then codes "F1" else codes "F2"

-- what is answered if no request is read; the end of the input gets no response
abbrev pub framing_response : RequestRefused → Option FixedResponse
framing_response request.End = None
framing_response request.Cut = None
framing_response request.LinkFault = None
framing_response (request.Malformed rule) = Some (fixed 400 (form_error rule))
framing_response request.HeadTooLong = Some (fixed 431 (codes "431"))
framing_response request.Coded = Some (fixed 501 (codes "501"))
framing_response request.NoLength = Some (fixed 411 (codes "411"))
framing_response request.BodyTooLong = Some (fixed 413 (codes "413"))
framing_response request.Memory = Some memory_response

-- the text and the receipt of a response without an act
abbrev pub IsFixed : FixedResponse → Bool → Receipt → List ℕ → Type 0
IsFixed f closes receipt text = (receipt ≡ plain_receipt f.status) × (text ≡ fixed_text f closes)

-- if no request is read, the response says that the connection ends
abbrev pub IsFraming : Option FixedResponse → Receipt → List ℕ → Type 0
IsFraming None receipt text = ⊥
IsFraming (Some f) receipt text = IsFixed f true receipt text
