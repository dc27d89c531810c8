-- The text of a lawful entry is written from a value such as reading takes it.
use Rattle.std.proofs.Common.{◌≤◌, ℕ, [], IsUtf8, codes, arith, refl}
use Rattle.std.proofs.lemmas.Bool.{and_parts}
use Rattle.std.specs.Fmt.{decimal}
use Rattle.std.proofs.lemmas.Str.{IsUtf8-nil}
use Rattle.lrs_fields.proofs.Apart.{are_apart}
use Rattle.lrs_fields.proofs.Decimals.{Fits-decimal}
use Rattle.lrs_fields.proofs.Fitting.{Fits-fields}
use Rattle.lrs_json.proofs.SmallBytes.{IsUtf8-small, are_small}
use Rattle.lrs_fields.proofs.Words.{IsUtf8-draw_text}
use Rattle.lrs_json.specs.Fits.{Fits}
use Rattle.lrs_json.specs.Json.{number}
use Rattle.lrs_record.specs.Entries.{HoldsCaller, HoldsWrite, IsLawful, IsLawfulWrite, caller_text, write_json, entry_json}
use Rattle.lrs_record.specs.Writes.{write_fields, write_name}
use Rattle.lrs_record.specs.declared.entry.Caller.{Caller}
use Rattle.lrs_record.specs.declared.entry.Caller.TheVariants.{Nobody, Operator, Token}
use Rattle.lrs_record.specs.declared.entry.Write.{Write}
use Rattle.lrs_record.specs.declared.entry.Entry.{Entry}
use Rattle.lrs_record.proofs.Writes.{well_named}
use Rattle.lrs_time.specs.declared.moments.TheConstants.{LATEST}

pub IsUtf8-caller_text : (caller : Caller) → HoldsCaller caller → IsUtf8 (caller_text caller)
IsUtf8-caller_text Nobody holds = IsUtf8-nil
IsUtf8-caller_text Operator holds = IsUtf8-small (codes "*") refl
IsUtf8-caller_text (Token token) holds = holds

Fits-write : (write : Write) → IsLawfulWrite write → HoldsWrite write → Fits (write_json write)
Fits-write write lawful holds =
    let named = and_parts (are_small (write_name write)) (are_apart [] (write_fields write)) (well_named write) in
    (IsUtf8-small (write_name write) named.0, refl, Fits-fields [] (write_fields write) named.1 lawful holds, tt)

Fits-moment : (moment : ℕ) → moment ≤ LATEST → Fits (number (decimal moment))
Fits-moment moment small = Fits-decimal moment (omega (arith, small))

pub readable : (entry : Entry) → IsLawful entry → Fits (entry_json entry)
unfolding entry_json
readable entry lawful =
    let values = lawful.values in (
      IsUtf8-small (codes "caller") refl,
      refl,
      IsUtf8-caller_text entry.caller values.caller,
      (
        IsUtf8-small (codes "moment") refl,
        refl,
        Fits-moment entry.moment values.moment,
        (
          IsUtf8-small (codes "draw") refl,
          refl,
          IsUtf8-draw_text entry.draw,
          (IsUtf8-small (codes "command") refl, refl, Fits-write entry.write lawful.write values.write, tt),
        ),
      ),
    )
