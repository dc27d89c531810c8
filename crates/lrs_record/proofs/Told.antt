-- The text of a lawful entry tells the entry.
use Rattle.std.proofs.Common.{◌≡◌, List, ℕ, codes, arith, refl, sym, ap}
use Rattle.std.specs.Fmt.{decimal}
use Rattle.std.proofs.lemmas.Fmt.{decimal_injective}
use Rattle.lrs_fields.specs.Digits.{draw_text}
use Rattle.lrs_fields.specs.Values.{members_for}
use Rattle.lrs_fields.proofs.SameParts.{all_parts, one_part}
use Rattle.lrs_fields.proofs.Words.{told_draw}
use Rattle.lrs_json.specs.Json.{number, string}
use Rattle.lrs_json_reader.proofs.WrittenLemmas.{Fits-IsSpellable}
use Rattle.lrs_json_slices.specs.Single.{same_json}
use Rattle.lrs_record.specs.Entries.{HoldsWrite, IsLawful, IsLawfulCaller, IsLawfulWrite, caller_text, write_json, entry_json, fields, written_entry}
use Rattle.lrs_record.specs.Writes.{write_fields, write_name}
use Rattle.lrs_record.specs.declared.entry.Caller.{Caller}
use Rattle.lrs_record.specs.declared.entry.Caller.TheVariants.{Nobody, Operator, Token}
use Rattle.lrs_record.specs.declared.entry.Write.{Write}
use Rattle.lrs_record.specs.declared.entry.Entry.{Entry}
use Rattle.lrs_record.proofs.Writes.{told_write}
use Rattle.lrs_record.proofs.EntryParts.{member_texts}
use Rattle.lrs_record.proofs.Readable.{readable}

same_caller : (a b : Caller) → IsLawfulCaller a → IsLawfulCaller b → caller_text a ≡ caller_text b → a ≡ b
same_caller Nobody Nobody x y e = refl
same_caller Nobody Operator x y e = absurd (cc e)
same_caller Nobody (Token token) x y e = absurd (y.0 (sym e))
same_caller Operator Nobody x y e = absurd (cc e)
same_caller Operator Operator x y e = refl
same_caller Operator (Token token) x y e = absurd (y.1 (sym e))
same_caller (Token token) Nobody x y e = absurd (x.0 e)
same_caller (Token token) Operator x y e = absurd (x.1 e)
same_caller (Token token) (Token other) x y e = ap Token e

same_parts : (a b : Write) → write_json a ≡ write_json b → (write_name a ≡ write_name b) × (fields (members_for (write_fields a)) ≡ fields (members_for (write_fields b)))
same_parts a b e =
    let same = one_part (write_json a) (write_name a, fields (members_for (write_fields a))) (write_name b, fields (members_for (write_fields b))) refl e in
    (ap (λ pair. pair.0) same, ap (λ pair. pair.1) same)

same_string : (a b : List ℕ) → string a ≡ string b → a ≡ b
same_string a b e = cc e

same_spelling : (a b : List ℕ) → number a ≡ number b → a ≡ b
same_spelling a b e = cc e

-- the name and the fields tell the write
same_write : (a b : Write) → IsLawfulWrite a → IsLawfulWrite b → HoldsWrite a → HoldsWrite b → write_json a ≡ write_json b → a ≡ b
same_write a b lawful good x y e =
    let parts = same_parts a b e in
    told_write a b parts.0 (lawful, x) (good, y) (all_parts (members_for (write_fields a)) (members_for (write_fields b)) parts.1)

told_by_json : (a b : Entry) → IsLawful a → IsLawful b → entry_json a ≡ entry_json b → a ≡ b
unfolding entry_json
told_by_json a b x y e =
    let parts = member_texts (entry_json a) (codes "caller", string (caller_text a.caller)) (codes "moment", number (decimal a.moment))
    (codes "draw", string (draw_text a.draw)) (codes "command", write_json a.write) b refl e in
    let caller : a.caller ≡ b.caller = same_caller _ _ x.caller y.caller (same_string _ _ (ap (λ pair. pair.1) parts.caller)) in
    let digits : decimal a.moment ≡ decimal b.moment = same_spelling _ _ (ap (λ pair. pair.1) parts.moment) in
    let moment : a.moment ≡ b.moment = decimal_injective a.moment b.moment (omega (arith, x.values.moment)) (omega (arith, y.values.moment)) digits in
    let draw : a.draw ≡ b.draw = told_draw a.draw b.draw x.values.draw y.values.draw (same_string _ _ (ap (λ pair. pair.1) parts.draw)) in
    let write : a.write ≡ b.write = same_write a.write b.write x.write y.write x.values.write y.values.write (ap (λ pair. pair.1) parts.command) in
    rw (caller, moment, draw, write) refl

pub written_entry_injective : (a b : Entry) → IsLawful a → IsLawful b → written_entry a ≡ written_entry b → a ≡ b
unfolding written_entry
written_entry_injective a b x y e = told_by_json a b x y (same_json (entry_json a) (entry_json b) ∣ Fits-IsSpellable (entry_json a) (readable a x) ∣₁ ∣ Fits-IsSpellable (entry_json b) (readable b y) ∣₁ e)
