-- The bytes of a response (RFC 9112, section 4), its fields in one fixed order.
use Rattle.std.specs.Prelude.{ℕ, ◌==◌, not, Bool, List, [], ◌∷◌, ◌++◌, length, Option, Some, None, unwrap_or}
use Rattle.std.specs.Prelude.{if◌then◌else◌, codes, decimal, IsTrue}
use Rattle.std.specs.List.{list_any}
use Rattle.http.specs.StatusCode.{reason_phrase}

abbrev pub line_end : List ℕ
line_end = 13 ∷ 10 ∷ []

-- the statuses that are answered
abbrev pub statuses : List ℕ
statuses = 200 ∷ 204 ∷ 400 ∷ 401 ∷ 403 ∷ 404 ∷ 405 ∷ 409 ∷ 411 ∷ 413 ∷ 431 ∷ 501 ∷ 503 ∷ 507 ∷ []

abbrev pub IsStatus : ℕ → Type 0
IsStatus status = IsTrue (list_any (λ s. s == status) statuses)

-- the phrase of a status, by RFC 9110 and the registry of statuses
unfoldable pub phrase_of : ℕ → List ℕ
phrase_of status = unwrap_or (reason_phrase status) []

-- a text, if it applies
abbrev pub where_so : Bool → List ℕ → List ℕ
where_so applies text = if applies then text else []

-- a field line
abbrev pub field : List ℕ → List ℕ → List ℕ
field name value = name ++ codes ": " ++ value ++ line_end

-- a field line of a value that may not be there
abbrev pub field_of : List ℕ → Option (List ℕ) → List ℕ
field_of name None = []
field_of name (Some value) = field name value

unfoldable pub status_line : ℕ → List ℕ
status_line status = codes "HTTP/1.1 " ++ decimal status ++ codes " " ++ phrase_of status ++ line_end

-- the whole response; a status without a body has neither its type nor its length
unfoldable pub response_of : ℕ → List ℕ → List ℕ → Option (List ℕ) → List ℕ → Bool → List ℕ
response_of status media body through allow closes =
    status_line status
    ++ where_so (not (status == 204)) (field (codes "Content-Type") media)
    ++ where_so (not (status == 204)) (field (codes "Content-Length") (decimal (length body)))
    ++ field (codes "X-Experience-API-Version") (codes "1.0.3")
    ++ field_of (codes "X-Experience-API-Consistent-Through") through
    ++ where_so (status == 405) (field (codes "Allow") allow)
    ++ where_so (status == 401) (field (codes "WWW-Authenticate") (codes "Basic realm=\"lrs\""))
    ++ where_so closes (field (codes "Connection") (codes "close"))
    ++ line_end
    ++ body
