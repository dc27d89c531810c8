-- What is read of a whole entry: its heading, its command, and what closes them.
use Rattle.std.proofs.Common.{◌≡◌, ◌≤◌, ℕ, List, [], ◌∷◌, ◌++◌, Result, Ok, Err, OnOk, IsUtf8, codes, Bool, true, false, append-nil, append_assoc, arith, refl, sym, ap, ◌∙◌}
use Rattle.std.proofs.lemmas.Bool.{and_parts}
use Rattle.std.specs.Fmt.{decimal}
use Rattle.lrs_fields.specs.LrsDecimalNumbers.{Ends, IsNumber}
use Rattle.lrs_fields.specs.Digits.{HoldsDraw, draw_text}
use Rattle.lrs_fields.specs.Reading.{IsKeptValue, Reads, field_text}
use Rattle.lrs_fields.specs.Values.{members_for, text_value}
use Rattle.lrs_fields.proofs.FieldValues.{IsNumber-decimal, spelled_text}
use Rattle.lrs_fields.proofs.Sequences.{before, behind, both_stand, both_text, made, mapped, paired, two}
use Rattle.lrs_json.proofs.SmallBytes.{IsUtf8-small, are_small}
use Rattle.lrs_fields.proofs.Apart.{are_apart}
use Rattle.lrs_json.specs.Json.{Json, string}
use Rattle.lrs_json.specs.Texts.{member_text}
use Rattle.lrs_json.specs.View.{members_of}
use Rattle.lrs_json.specs.Written.{escaped, members_text}
use Rattle.lrs_json_reader.specs.declared.cursor.Stop.{Stop}
use Rattle.lrs_json_reader.specs.declared.cursor.Stop.TheVariants.{Memory}
use Rattle.lrs_names.specs.declared.draw.Draw.{Draw}
use Rattle.lrs_record.specs.Entries.{IsLawful, caller_text, closing_text, heading_text, opening_text, written_entry}
use Rattle.lrs_record.specs.Reading.{Anything, IsKeptCaller, IsKeptWrite, ReadsWrite, command_text, draw_member, moment_member, open_fields, open_members, opened_caller}
use Rattle.lrs_record.specs.Writes.{write_fields, write_name}
use Rattle.lrs_record.specs.declared.entry.Caller.{Caller}
use Rattle.lrs_record.specs.declared.entry.Entry.{Entry}
use Rattle.lrs_record.specs.declared.entry.Write.{Write}
use Rattle.lrs_record.proofs.EntryParts.{entry_parts}
use Rattle.lrs_record.proofs.WriteReading.{both_ok}
use Rattle.lrs_record.proofs.Writes.{well_named}
use Rattle.lrs_time.specs.declared.moments.TheConstants.{LATEST}

-- ---- the heading, behind what opens each part of it

pub at_caller : (old new : List ℕ) (r : Result Caller Stop) → Reads (spelled_text (codes "{\"caller\":") caller_text) IsKeptCaller Ends old r new → Reads opened_caller IsKeptCaller Ends old r new
unfolding escaped
at_caller old new r reads = reads

pub at_moment : (old new : List ℕ) (r : Result ℕ Stop) → Reads (behind (codes ",\"moment\":") decimal) (λ moment. moment ≤ LATEST) Ends old r new → Reads moment_member (λ moment. moment ≤ LATEST) Ends old r new
unfolding escaped
at_moment old new r reads = reads

pub at_draw : (old new : List ℕ) (r : Result Draw Stop) → Reads (spelled_text (codes ",\"draw\":") draw_text) HoldsDraw Ends old r new → Reads draw_member HoldsDraw Ends old r new
unfolding escaped
at_draw old new r reads = reads

pub IsNumber-moment : (moment : ℕ) → moment ≤ LATEST → IsNumber (decimal moment)
IsNumber-moment moment small = IsNumber-decimal moment (omega (arith, small))

-- ---- the name of the command

abbrev pub at_command : List ℕ → List ℕ
at_command = field_text (codes ",\"command\":{") text_value

opening_parts : (name : List ℕ) → opening_text name ≡ before at_command (codes ":{") name
unfolding escaped
opening_parts name = simp append_assoc refl

one_opening : (old new : List ℕ) (r : Result (List ℕ) Stop) → Reads (before at_command (codes ":{")) (IsKeptValue text_value) Anything old r new → Reads opening_text IsUtf8 Anything old (mapped (λ name. name) r) new
one_opening old new r =
    made (λ name. name) (before at_command (codes ":{")) opening_text (IsKeptValue text_value) IsUtf8 Anything Anything old new r
    (λ name is. (is.0, opening_parts name)) (λ name rest is whole. (name, (is, tt), refl)) (λ rest f. f)

pub opening_read : (old new : List ℕ) (r : Result (List ℕ) Stop) → Reads (before at_command (codes ":{")) (IsKeptValue text_value) Anything old r new → Reads opening_text IsUtf8 Anything old r new
opening_read old new (Ok name) reads = one_opening old new (Ok name) reads
opening_read old new (Err e) reads = one_opening old new (Err e) reads

-- ---- the command

first_member : (later : Bool) (name : List ℕ) (j : Json) (ms : List (List ℕ × Json)) → members_text later (members_of ((name, j) ∷ ms)) ≡ member_text later name j ++ members_text true (members_of ms)
first_member later name j ms = simp append_assoc refl

closed_members : (later : Bool) (ms : List (List ℕ × Json)) → members_text later (members_of ms) ≡ open_members later ms ++ 125 ∷ []
closed_members later [] = refl
closed_members later (m ∷ ms) =
    first_member later m.0 m.1 ms ∙ ap (λ t. member_text later m.0 m.1 ++ t) (closed_members true ms) ∙ sym (append_assoc (member_text later m.0 m.1) (open_members true ms) (125 ∷ []))

abbrev closing : List ℕ
closing = 125 ∷ 125 ∷ 125 ∷ []

joined : (o f rest : List ℕ) → (o ++ ((f ++ 125 ∷ []) ++ 125 ∷ 125 ∷ [])) ++ rest ≡ o ++ (f ++ (closing ++ rest))
joined o f rest = simp append_assoc refl

command_parts : (w : Write) (rest : List ℕ) → command_text w ++ rest ≡ opening_text (write_name w) ++ (open_fields w ++ (closing ++ rest))
command_parts w rest =
    let fields = members_for (write_fields w) in
    ap (λ t. (opening_text (write_name w) ++ (t ++ 125 ∷ 125 ∷ [])) ++ rest) (closed_members false fields)
    ∙ joined (opening_text (write_name w)) (open_fields w) rest

small_name : (w : Write) → IsUtf8 (write_name w)
small_name w = IsUtf8-small (write_name w) (and_parts (are_small (write_name w)) (are_apart [] (write_fields w)) (well_named w)).0

pub opening_failed : (old new own : List ℕ) (e : Stop) → Reads opening_text IsUtf8 Anything old (Err e) new → Reads command_text IsKeptWrite Ends old (Err e) own
opening_failed old new own e reads =
    record { found = tt; all = λ w rest is f whole. reads.all (write_name w) (open_fields w ++ (closing ++ rest)) (small_name w) tt (whole ∙ command_parts w rest) }

-- what is left behind the opening of a command's name
named : (old mid name rest : List ℕ) (w : Write) → Reads opening_text IsUtf8 Anything old (Ok name) mid → old ≡ command_text w ++ rest → (name ≡ write_name w) × (mid ≡ open_fields w ++ (closing ++ rest))
named old mid name rest w reads whole = reads.all (write_name w) (open_fields w ++ (closing ++ rest)) (small_name w) tt (whole ∙ command_parts w rest)

pub fields_failed : (old mid new own name given : List ℕ) (e : Stop) → given ≡ name → Reads opening_text IsUtf8 Anything old (Ok name) mid → ReadsWrite given mid (Err e) new
    → Reads command_text IsKeptWrite Ends old (Err e) own
fields_failed old mid new own name given e lent opening fields =
    record {
      found = tt;
      all = λ w rest is f whole.
          let told = named old mid name rest w opening whole in
          fields.all w (closing ++ rest) (sym (lent ∙ told.0), is) refl told.1;
    }

pub closing_missing : (old mid new own name given : List ℕ) (v : Write) (e : Stop) → given ≡ name → Reads opening_text IsUtf8 Anything old (Ok name) mid → ReadsWrite given mid (Ok v) new
    → ((rest : List ℕ) → new ≡ closing ++ rest → e ≡ Memory) → Reads command_text IsKeptWrite Ends old (Err e) own
closing_missing old mid new own name given v e lent opening fields never =
    record {
      found = tt;
      all = λ w rest is f whole.
          let told = named old mid name rest w opening whole in
          never rest (fields.all w (closing ++ rest) (sym (lent ∙ told.0), is) refl told.1).1;
    }

pub command_read : (old mid new own name given : List ℕ) (v : Write) → given ≡ name → Reads opening_text IsUtf8 Anything old (Ok name) mid → ReadsWrite given mid (Ok v) new → new ≡ closing ++ own
    → ((rest : List ℕ) → new ≡ closing ++ rest → own ≡ rest) → Reads command_text IsKeptWrite Ends old (Ok v) own
command_read old mid new own name given v lent opening fields found only =
    let same : name ≡ write_name v = sym lent ∙ sym fields.found.0.0 in
    let left : mid ≡ open_fields v ++ (closing ++ own) = fields.found.1 ∙ ap (λ t. open_fields v ++ t) found in
    record {
      found = (
        fields.found.0.1,
        opening.found.1 ∙ ap (λ t. opening_text name ++ t) left ∙ ap (λ n. opening_text n ++ (open_fields v ++ (closing ++ own))) same ∙ sym (command_parts v own),
      );
      all = λ w rest is f whole.
          let told = named old mid name rest w opening whole in
          let told2 = fields.all w (closing ++ rest) (sym (lent ∙ told.0), is) refl told.1 in
          (told2.0, only rest told2.1);
    }

-- ---- the entry

abbrev Parts : Type 0
Parts = Caller × (ℕ × (Draw × Write))

abbrev parts_text : Parts → List ℕ
parts_text = both_text opened_caller (both_text moment_member (both_text draw_member command_text))

abbrev AreKept : Parts → Type 0
AreKept = both_stand IsKeptCaller (both_stand (λ moment. moment ≤ LATEST) (both_stand HoldsDraw IsKeptWrite))

abbrev entry_of : Parts → Entry
entry_of p = record { caller = p.0; write = p.1.1.1; moment = p.1.0; draw = p.1.1.0 }

in_order : (c m d o k : List ℕ) → (123 ∷ (c ++ (m ++ (d ++ o)))) ++ k ≡ (123 ∷ c) ++ (m ++ (d ++ (o ++ k)))
in_order c m d o k = simp append_assoc refl

entry_text : (p : Parts) → written_entry (entry_of p) ≡ parts_text p
unfolding heading_text
entry_text p =
    entry_parts (entry_of p)
    ∙ in_order (member_text false (codes "caller") (string (caller_text p.0))) (moment_member p.1.0) (draw_member p.1.1.0) (opening_text (write_name p.1.1.1)) (closing_text p.1.1.1)

lawful_entry : (p : Parts) → AreKept p → IsLawful (entry_of p)
lawful_entry p is =
    record {
      caller = is.0.0;
      write = is.1.1.1.0;
      values = record { caller = is.0.1; write = is.1.1.1.1; moment = is.1.0; draw = is.1.1.0 };
    }

pub entry_read : (old m1 m2 m3 new : List ℕ) (r : Result Caller Stop) (s : Result ℕ Stop) (t : Result Draw Stop) (u : Result Write Stop) → Reads opened_caller IsKeptCaller Ends old r m1
    → OnOk r (Reads moment_member (λ moment. moment ≤ LATEST) Ends m1 s m2) → OnOk r (OnOk s (Reads draw_member HoldsDraw Ends m2 t m3)) → OnOk r (OnOk s (OnOk t (Reads command_text IsKeptWrite Ends m3 u new)))
    → Reads written_entry IsLawful Ends old (mapped entry_of (paired r (paired s (paired t u)))) new
entry_read old m1 m2 m3 new r s t u first second third fourth =
    made entry_of parts_text written_entry AreKept IsLawful Ends Ends old new (paired r (paired s (paired t u)))
    (λ p is. (lawful_entry p is, entry_text p))
    (λ entry rest is whole. ((entry.caller, (entry.moment, (entry.draw, entry.write))), ((is.caller, is.values.caller), (is.values.moment, (is.values.draw, (is.write, is.values.write)))), refl))
    (λ rest f. f)
    (two opened_caller (both_text moment_member (both_text draw_member command_text)) IsKeptCaller (both_stand (λ moment. moment ≤ LATEST) (both_stand HoldsDraw IsKeptWrite)) Ends Ends
    old m1 new r (paired s (paired t u)) first
    (both_ok r
    (λ x y. two moment_member (both_text draw_member command_text) (λ moment. moment ≤ LATEST) (both_stand HoldsDraw IsKeptWrite) Ends Ends m1 m2 new s (paired t u) x y (λ b rest is f. refl))
    second
    (both_ok r (λ x y. both_ok s (λ a b. two draw_member command_text HoldsDraw IsKeptWrite Ends Ends m2 m3 new t u a b (λ b rest is f. refl)) x y) third fourth))
    (λ b rest is f. refl))

-- ---- nothing stands behind it

pub whole_found : (bytes old new : List ℕ) (entry : Entry) → old ≡ bytes → Reads written_entry IsLawful Ends old (Ok entry) new → new ≡ [] → IsLawful entry × (written_entry entry ≡ bytes)
whole_found bytes old new entry same reads none =
    (reads.found.0, sym (sym same ∙ reads.found.1 ∙ ap (λ t. written_entry entry ++ t) none ∙ append-nil (written_entry entry)))

ends_here : (bytes old : List ℕ) (entry : Entry) → old ≡ bytes → written_entry entry ≡ bytes → old ≡ written_entry entry ++ []
ends_here bytes old entry same is = same ∙ sym is ∙ sym (append-nil (written_entry entry))

pub whole_again : (bytes old new : List ℕ) (own entry : Entry) → old ≡ bytes → Reads written_entry IsLawful Ends old (Ok own) new → IsLawful entry → written_entry entry ≡ bytes → (own ≡ entry) × (new ≡ [])
whole_again bytes old new own entry same reads lawful is = reads.all entry [] lawful tt (ends_here bytes old entry same is)

pub whole_fault : (bytes old new : List ℕ) (e : Stop) (entry : Entry) → old ≡ bytes → Reads written_entry IsLawful Ends old (Err e) new → IsLawful entry → written_entry entry ≡ bytes → e ≡ Memory
whole_fault bytes old new e entry same reads lawful is = reads.all entry [] lawful tt (ends_here bytes old entry same is)
