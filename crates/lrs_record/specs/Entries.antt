-- The text of an entry: `{"caller":C,"moment":MS,"draw":HEX64,"command":{NAME:ARGS}}`, in the written form of JSON.
use Rattle.std.specs.Prelude.{◌≡◌, ◌≢◌, ◌≤◌, ℕ, List, [], ◌∷◌, ◌++◌, true, false, codes, IsUtf8}
use Rattle.std.specs.Fmt.{decimal}
use Rattle.std.specs.List.{AllByRecursion}
use Rattle.lrs_fields.specs.Digits.{HoldsDraw, draw_text}
use Rattle.lrs_fields.specs.Values.{HoldsValue, IsLawfulValue, members_for}
use Rattle.lrs_json.specs.Json.{Json, number, string, object}
use Rattle.lrs_json.specs.Texts.{member_text, name_text}
use Rattle.lrs_json.specs.View.{members_of}
use Rattle.lrs_json.specs.Written.{members_text, written}
use Rattle.lrs_record.specs.Writes.{write_fields, write_name}
use Rattle.lrs_record.specs.declared.entry.Caller.{Caller}
use Rattle.lrs_record.specs.declared.entry.Caller.TheVariants.{Nobody, Operator, Token}
use Rattle.lrs_record.specs.declared.entry.Write.{Write}
use Rattle.lrs_record.specs.declared.entry.Entry.{Entry}
use Rattle.lrs_time.specs.declared.moments.TheConstants.{LATEST}
-- what the crates above say of trees and of words, passed on
pub use Rattle.lrs_fields.specs.Values.{AreLawfulTrees, IsLawfulTree}
unfoldable pub use Rattle.lrs_fields.specs.Digits.{word_text}

-- an object of these members
abbrev pub fields : List (List ℕ × Json) → Json
fields members = object (members_of members)

-- empty for nobody, `*` for the operator, else the token
abbrev pub caller_text : Caller → List ℕ
caller_text Nobody = []
caller_text Operator = codes "*"
caller_text (Token token) = token

abbrev pub write_json : Write → Json
write_json write = fields ((write_name write, fields (members_for (write_fields write))) ∷ [])

unfoldable pub entry_json : Entry → Json
entry_json entry =
    fields ((codes "caller", string (caller_text entry.caller)) ∷ (codes "moment", number (decimal entry.moment))
    ∷ (codes "draw", string (draw_text entry.draw)) ∷ (codes "command", write_json entry.write) ∷ [])

unfoldable pub written_entry : Entry → List ℕ
written_entry entry = written (entry_json entry)

-- what opens the fields of a command of that name
abbrev pub opening_text : List ℕ → List ℕ
opening_text name = name_text true (codes "command") ++ (123 ∷ (name_text false name ++ 123 ∷ []))

-- what stands before the fields of the entry's write
unfoldable pub heading_text : Entry → List ℕ
heading_text entry =
    123 ∷ (member_text false (codes "caller") (string (caller_text entry.caller))
    ++ (member_text true (codes "moment") (number (decimal entry.moment))
    ++ (member_text true (codes "draw") (string (draw_text entry.draw)) ++ opening_text (write_name entry.write))))

-- the fields of a write, and what closes them, the command and the entry
abbrev pub closing_text : Write → List ℕ
closing_text write = members_text false (members_of (members_for (write_fields write))) ++ 125 ∷ 125 ∷ []

-- A token is written as itself, so it is not what is written for nobody and for the operator.
abbrev pub IsLawfulCaller : Caller → Type 0
IsLawfulCaller Nobody = Unit {0}
IsLawfulCaller Operator = Unit {0}
IsLawfulCaller (Token token) = (token ≢ []) × (token ≢ codes "*")

-- Its trees are such as reading gives.
abbrev pub IsLawfulWrite : Write → Type 0
IsLawfulWrite write = AllByRecursion (λ field. IsLawfulValue field.1) (write_fields write)

-- Each text is UTF-8.
abbrev pub HoldsCaller : Caller → Type 0
HoldsCaller Nobody = Unit {0}
HoldsCaller Operator = Unit {0}
HoldsCaller (Token token) = IsUtf8 token

abbrev pub HoldsWrite : Write → Type 0
HoldsWrite write = AllByRecursion (λ field. HoldsValue field.1) (write_fields write)

-- what holds of the caller, the moment and the draw of every entry of the program
abbrev pub HoldsHeading : Entry → Type 0
HoldsHeading entry = HoldsCaller entry.caller × (entry.moment ≤ LATEST) × HoldsDraw entry.draw

-- what holds of every entry of the program, by the types of its parts
pub record HasValues (entry : Entry) : Type 0 where
  pub caller : HoldsCaller entry.caller
  pub write : HoldsWrite entry.write
  pub moment : entry.moment ≤ LATEST
  pub draw : HoldsDraw entry.draw

-- an entry that may be written, and is read again as itself
pub record IsLawful (entry : Entry) : Type 0 where
  pub caller : IsLawfulCaller entry.caller
  pub write : IsLawfulWrite entry.write
  pub values : HasValues entry

-- the text of some lawful entry
abbrev pub IsEntryText : List ℕ → Type 0
IsEntryText bytes = (entry : Entry) × IsLawful entry × (written_entry entry ≡ bytes)
