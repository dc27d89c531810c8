-- The four members of an entry's text, and what stands before and behind the fields of its write.
use Rattle.std.proofs.Common.{◌≡◌, ℕ, List, [], ◌∷◌, ◌++◌, true, false, codes}
use Rattle.std.specs.Fmt.{decimal}
use Rattle.lrs_json.specs.Json.{Json, number, object, string}
use Rattle.lrs_json.specs.Texts.{member_text}
use Rattle.lrs_json.specs.View.{members_of}
use Rattle.lrs_json.specs.Written.{comma_if, members_text, quoted}
use Rattle.lrs_fields.specs.Digits.{draw_text}
use Rattle.lrs_fields.specs.Values.{members_for}
use Rattle.lrs_record.specs.Entries.{caller_text, closing_text, entry_json, heading_text, write_json, written_entry}
use Rattle.lrs_record.specs.Writes.{write_fields, write_name}
use Rattle.lrs_record.specs.declared.entry.Entry.{Entry}
use Rattle.lrs_fields.proofs.SameParts.{four_parts}
use Rattle.lrs_record.proofs.Joined.{in_parts}

pub record MemberTexts (a b c d : List ℕ × Json) (entry : Entry) : Type 0 where
  pub caller : a ≡ (codes "caller", string (caller_text entry.caller))
  pub moment : b ≡ (codes "moment", number (decimal entry.moment))
  pub draw : c ≡ (codes "draw", string (draw_text entry.draw))
  pub command : d ≡ (codes "command", write_json entry.write)

pub member_texts : (seen : Json) (a b c d : List ℕ × Json) (entry : Entry) → seen ≡ object (members_of (a ∷ b ∷ c ∷ d ∷ [])) → seen ≡ entry_json entry
    → MemberTexts a b c d entry
unfolding entry_json
member_texts seen a b c d entry x y =
    let parts = four_parts seen a b c d (codes "caller", string (caller_text entry.caller)) (codes "moment", number (decimal entry.moment))
    (codes "draw", string (draw_text entry.draw)) (codes "command", write_json entry.write) x y in
    record { caller = parts.0; moment = parts.1; draw = parts.2; command = parts.3 }

pub entry_parts : (entry : Entry) → written_entry entry ≡ heading_text entry ++ closing_text entry.write
unfolding written_entry entry_json heading_text
entry_parts entry =
    in_parts (member_text false (codes "caller") (string (caller_text entry.caller))) (member_text true (codes "moment") (number (decimal entry.moment)))
    (member_text true (codes "draw") (string (draw_text entry.draw))) (comma_if true ++ quoted (codes "command")) (comma_if false ++ quoted (write_name entry.write))
    (members_text false (members_of (members_for (write_fields entry.write))))
