-- What a reply to a command says: its status, the type of its body and the body's bytes.
use Rattle.std.specs.Prelude.{◌≡◌, ◌⊎◌, ℕ, List, [], ◌++◌, Option, Result, Ok, Err, None, codes}
use Rattle.std.specs.Fmt.{decimal}
use Rattle.lrs_names.specs.Ids.{id_text}
use Rattle.lrs_rules.specs.Rules.{rule_text}
use Rattle.lrs_rules.specs.declared.rule.Rule.TheVariants as rule
use Rattle.lrs_replies.specs.declared.answered.Answered.{Answered}
use Rattle.lrs_replies.specs.declared.answered.Answered.TheVariants.{Kept, Same, Shown, Document, Refused}
use Rattle.lrs_replies.specs.declared.answered.Refusal.{Refusal}
use Rattle.lrs_replies.specs.declared.answered.Refusal.TheVariants.{Conflict, Full, Broken, TooLong}
use Rattle.lrs_replies.specs.declared.answered.Refusal.TheVariants.{Unauthorized, Forbidden, NotFound}
use Rattle.lrs_replies.specs.declared.reply.Reply.{Reply}
use Rattle.lrs_replies.specs.declared.reply.Media.{Media}
use Rattle.lrs_replies.specs.declared.reply.Media.TheVariants.{Json, Own, Empty}
use Rattle.lrs_replies.specs.declared.reply.Body.{Body}
use Rattle.lrs_replies.specs.declared.reply.Body.TheVariants as body
use Rattle.lrs_replies.specs.declared.reply.Trouble.{Trouble}
use Rattle.lrs_replies.specs.declared.reply.Trouble.TheVariants as trouble

abbrev pub refusal_status : Refusal → ℕ
refusal_status (Conflict id) = 409
refusal_status (Full need limit) = 507
refusal_status (Broken rule) = 400
refusal_status TooLong = 413
refusal_status Unauthorized = 401
refusal_status (Forbidden rule) = 403
refusal_status NotFound = 404

abbrev pub status_of : Answered → ℕ
status_of Kept = 204
status_of Same = 204
status_of (Shown text through) = 200
status_of (Document media bytes) = 200
status_of (Refused refusal) = refusal_status refusal

-- only a body has a type; that of a document is its own
abbrev pub media_of : Answered → Media
media_of Kept = Empty
media_of Same = Empty
media_of (Shown text through) = Json
media_of (Document media bytes) = Own media
media_of (Refused refusal) = Json

-- {"error":"E" and what follows it
abbrev pub error_body : List ℕ → List ℕ → List ℕ
error_body error more = codes "{\"error\":\"" ++ error ++ codes "\"" ++ more ++ codes "}"

abbrev pub refusal_body : Refusal → List ℕ
refusal_body (Conflict id) = error_body (codes "409") (codes ",\"id\":\"" ++ id_text id ++ codes "\"")
refusal_body (Full need limit) =
    error_body (codes "507") (codes ",\"need\":" ++ decimal need ++ codes ",\"limit\":" ++ decimal limit)
refusal_body (Broken rule) = error_body (rule_text rule) []
refusal_body TooLong = error_body (codes "413") []
refusal_body Unauthorized = error_body (rule_text (rule.A 1)) []
refusal_body (Forbidden rule) = error_body (rule_text rule) []
refusal_body NotFound = error_body (codes "404") []

abbrev pub body_of : Answered → List ℕ
body_of Kept = []
body_of Same = []
body_of (Shown text through) = text
body_of (Document media bytes) = bytes
body_of (Refused refusal) = refusal_body refusal

-- the moment up to which what is shown is consistent, if it is of the statements
abbrev pub through_of : Answered → Option ℕ
through_of (Shown text through) = through
through_of other = None

-- the bytes of a body, also of the two that are fixed
abbrev pub body_bytes : Body → List ℕ
body_bytes (body.Made bytes) = bytes
body_bytes body.Disk = error_body (codes "disk") []
body_bytes body.Memory = error_body (codes "memory") []

-- the reply says what the store says, or why it can't
abbrev pub Says : Result Answered Trouble → Reply → Type 0
Says (Ok said) reply = (reply.status ≡ status_of said) × (reply.media ≡ media_of said)
    × (reply.body ≡ body.Made (body_of said)) × (reply.through ≡ through_of said)
Says (Err trouble.Memory) reply = (reply.status ≡ 503) × (reply.media ≡ Json) × (reply.body ≡ body.Memory)
    × (reply.through ≡ None)
Says (Err trouble.Disk) reply = (reply.status ≡ 503) × (reply.media ≡ Json) × (reply.body ≡ body.Disk)
    × (reply.through ≡ None)

abbrev pub status_in : Result Answered Trouble → ℕ
status_in (Ok said) = status_of said
status_in (Err trouble) = 503

-- something is refused, so no entry is kept
abbrev pub IsRefusal : Result Answered Trouble → Type 0
IsRefusal (Ok (Refused refusal)) = Unit {0}
IsRefusal (Ok other) = ⊥
IsRefusal (Err trouble) = ⊥

-- the reply says this, or of a refusal that there was no memory for its body
abbrev pub IsReplyTo : Result Answered Trouble → Reply → Type 0
IsReplyTo said reply = Says said reply ⊎ (IsRefusal said × Says (Err trouble.Memory) reply)
