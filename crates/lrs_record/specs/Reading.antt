-- How the parts of an entry are read from its text.
use Rattle.std.specs.Prelude.{◌≡◌, ℕ, List, [], ◌∷◌, ◌++◌, Bool, true, false, codes, IfSome, Result}
use Rattle.std.specs.Fmt.{decimal}
use Rattle.lrs_fields.specs.Digits.{draw_text}
use Rattle.lrs_fields.specs.Reading.{IsKeptValue, Reads, field_text, optional_text}
use Rattle.lrs_fields.specs.Values.{agent_value, id_value, iri_value, members_for, text_value}
use Rattle.lrs_json.specs.Json.{Json, number, string}
use Rattle.lrs_json.specs.Texts.{member_text}
use Rattle.lrs_json_reader.specs.declared.cursor.Stop.{Stop}
use Rattle.lrs_names.specs.declared.draw.Draw.{Draw}
use Rattle.lrs_record.specs.Entries.{HoldsCaller, HoldsWrite, IsLawfulCaller, IsLawfulWrite}
use Rattle.lrs_record.specs.Entries.{caller_text, closing_text, opening_text}
use Rattle.lrs_record.specs.Writes.{write_fields, write_name}
use Rattle.lrs_record.specs.declared.entry.Caller.{Caller}
use Rattle.lrs_record.specs.declared.entry.Write.{Write}
use Rattle.xapi_keys.specs.declared.state_key.StateKey.{StateKey}

-- of what may follow
abbrev pub Anything : List ℕ → Type 0
Anything rest = Unit {0}

-- ---- the heading

abbrev pub IsKeptCaller : Caller → Type 0
IsKeptCaller caller = IsLawfulCaller caller × HoldsCaller caller

-- with the brace that opens the entry
abbrev pub opened_caller : Caller → List ℕ
opened_caller caller = 123 ∷ member_text false (codes "caller") (string (caller_text caller))

abbrev pub moment_member : ℕ → List ℕ
moment_member moment = member_text true (codes "moment") (number (decimal moment))

abbrev pub draw_member : Draw → List ℕ
draw_member draw = member_text true (codes "draw") (string (draw_text draw))

-- ---- the fields of a write

-- members one after the other, without the brace that closes them
abbrev pub open_members : Bool → List (List ℕ × Json) → List ℕ
open_members later [] = []
open_members later (member ∷ members) = member_text later member.0 member.1 ++ open_members true members

abbrev pub open_fields : Write → List ℕ
open_fields write = open_members false (members_for (write_fields write))

abbrev pub IsKeptWrite : Write → Type 0
IsKeptWrite write = IsLawfulWrite write × HoldsWrite write

-- a brace comes first
abbrev pub IsClosed : List ℕ → Type 0
IsClosed [] = ⊥
IsClosed (byte ∷ bytes) = byte ≡ 125

-- the fields of a write of that name, up to the brace that closes them
abbrev pub ReadsWrite : List ℕ → List ℕ → Result Write Stop → List ℕ → Type 0
ReadsWrite name old r new =
    Reads open_fields (λ write. (write_name write ≡ name) × IsKeptWrite write) IsClosed old r new

-- what a document stands under, as fields that stand behind another
abbrev pub key_text : StateKey → List ℕ
key_text key =
    field_text (codes ",\"activity\":") iri_value key.activity
    ++ (field_text (codes ",\"agent\":") agent_value key.agent
    ++ (optional_text (codes ",\"registration\":") id_value key.registration
    ++ field_text (codes ",\"state\":") text_value key.state))

abbrev pub IsKeptKey : StateKey → Type 0
IsKeptKey key = IsKeptValue iri_value key.activity × IsKeptValue agent_value key.agent
    × IfSome key.registration (IsKeptValue id_value) × IsKeptValue text_value key.state

-- ---- the command

-- from its name to the end of the entry
abbrev pub command_text : Write → List ℕ
command_text write = opening_text (write_name write) ++ closing_text write
