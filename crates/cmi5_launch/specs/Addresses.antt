-- The address at which a unit is launched (cmi5 Quartz, section 8.1).
use Rattle.std.specs.Prelude.{◌≡◌, ℕ, ◌||◌, ◌==◌, List, [], ◌∷◌, ◌++◌, drop, Bool, None, Ok, Err, codes}
use Rattle.std.specs.Prelude.{if◌then◌else◌}
use Rattle.std.specs.List.{flat_map, list_any, before_first, after_first, position_or_len}
use Rattle.std.specs.Char.{is_ascii_alphanumeric}
use Rattle.lrs_agent_texts.specs.Texts.{agent_json}
use Rattle.lrs_agents.specs.declared.agents.Agent.{Agent}
use Rattle.lrs_json.specs.Written.{written}
use Rattle.lrs_names.specs.Ids.{id_text}
use Rattle.lrs_names.specs.Iris.{has_some}
use Rattle.percent_encoding.specs.Percent.{percent_encode_byte}
use Rattle.url.specs.Parser.{Parsed, parse_url}
use Rattle.url.specs.Parts.{Parts, serialize}

-- ---- values in an address

-- a letter, a digit, or one of `-._~`
abbrev pub is_unreserved : ℕ → Bool
is_unreserved b = is_ascii_alphanumeric b || b == 45 || b == 46 || b == 95 || b == 126

-- all other bytes as `%XX`
unfoldable pub escaped : List ℕ → List ℕ
escaped text = flat_map (λ b. if is_unreserved b then b ∷ [] else percent_encode_byte b) text

-- name=VALUE
abbrev pub pair_text : List ℕ × List ℕ → List ℕ
pair_text pair = pair.0 ++ codes "=" ++ escaped pair.1

-- with `&` before each of them
abbrev pub pairs_behind : List (List ℕ × List ℕ) → List ℕ
pairs_behind [] = []
pairs_behind (pair ∷ pairs) = codes "&" ++ pair_text pair ++ pairs_behind pairs

-- with `&` between them
abbrev pub pairs_text : List (List ℕ × List ℕ) → List ℕ
pairs_text [] = []
pairs_text (pair ∷ pairs) = pair_text pair ++ pairs_behind pairs

-- What a launch tells a unit: where the store is, where the session's token is fetched, who the learner is, in which
-- registration, and as which Activity the unit is known.
abbrev pub launch_pairs : List ℕ → List ℕ → Agent → List ℕ → List ℕ → List (List ℕ × List ℕ)
launch_pairs base key actor registration activity =
    (codes "endpoint", base ++ codes "xapi/") ∷ (codes "fetch", base ++ codes "fetch/" ++ key)
    ∷ (codes "actor", written (agent_json actor)) ∷ (codes "registration", id_text registration)
    ∷ (codes "activityId", activity) ∷ []

-- ---- where they stand in it

abbrev pub is_number_sign : ℕ → Bool
is_number_sign b = b == 35

abbrev pub is_question_mark : ℕ → Bool
is_question_mark b = b == 63

abbrev pub before_fragment : List ℕ → List ℕ
before_fragment address = before_first is_number_sign address

-- with its number sign; nothing where there is none
abbrev pub fragment : List ℕ → List ℕ
fragment address = drop (position_or_len is_number_sign address) address

-- `?` behind an address without a query, `&` behind a query, nothing behind an empty one
abbrev pub joint : List ℕ → List ℕ
joint address =
    if list_any is_question_mark address
    then (if has_some (after_first is_question_mark address) then codes "&" else []) else codes "?"

-- the address with the pairs behind its query, before its fragment
abbrev pub with_query : List ℕ → List ℕ → List ℕ
with_query pairs address =
    before_fragment address ++ joint (before_fragment address) ++ pairs ++ fragment address

-- ---- the whole

-- a text that the URL Standard reads as an absolute address
abbrev pub IsAddress : List ℕ → Type 0
IsAddress text = (url : Parts) × (parse_url None text ≡ Ok url)

abbrev pub printed_of : Parsed Parts → List ℕ
printed_of (Ok url) = serialize url
printed_of (Err refused) = []

-- an address as the URL Standard prints it
unfoldable pub printed : List ℕ → List ℕ
printed text = printed_of (parse_url None text)

-- the address at which a unit of that address is launched
abbrev pub launch_text : List ℕ → List ℕ → List ℕ → Agent → List ℕ → List ℕ → List ℕ
launch_text url base key actor registration activity =
    with_query (pairs_text (launch_pairs base key actor registration activity)) (printed url)
