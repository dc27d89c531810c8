use Rattle.std.proofs.Common.{◌≡◌, ◌⊎◌, ℕ, List, Option, Some, Result, Ok, Err, inl, inr, sym, ap, ◌∙◌, subst}
use Rattle.std.specs.Result.{result_ok}
use Rattle.std.proofs.lemmas.Bool.{false≢true}
use Rattle.hex.specs.Hex.{IsBytes, decode_of, encode_lower}
use Rattle.hex.specs.declared.error.FromHexError.{FromHexError}
use Rattle.hex.specs.declared.error.FromHexError.TheVariants.{OutOfMemory}
use Rattle.hex.proofs.HexLemmas.{decode_of-encode_lower, decode_of-ok}
use Rattle.lrs_fields.specs.Reading.{ReadsSpelling}
use Rattle.lrs_fields.proofs.Sequences.{other_spelled, same_spelled}
use Rattle.lrs_fields.proofs.digits.bytes_of.Goals as goal

abbrev read : List ℕ → Option (List ℕ)
read digits = result_ok (decode_of digits)

back : (bytes : List ℕ) → IsBytes bytes → read (encode_lower bytes) ≡ Some bytes
back bytes are = ap result_ok (decode_of-encode_lower bytes are)

pub returns-in-Ok-true : goal.returns-in-Ok-true
returns-in-Ok-true c =
    let bytes = c.in-Ok.bytes.items in
    let are : IsBytes bytes = (decode_of-ok c.args.digits.now bytes c.in-Ok.ensures.ok).3 in
    let told : c.args.digits.now ≡ encode_lower bytes = c.in-Ok-true.ensures.0 c.in-Ok-true.field-0-test ∙ ap encode_lower c.as_slice.ensures.value in
    subst (λ own. ReadsSpelling encode_lower IsBytes c.args.digits.now (Ok own)) (sym c.from_vec.ensures) (same_spelled encode_lower IsBytes read c.args.digits.now bytes back are told)

pub returns-in-Ok-false : goal.returns-in-Ok-false
returns-in-Ok-false c =
    other_spelled encode_lower IsBytes read c.args.digits.now c.in-Ok.bytes.items back (ap result_ok c.in-Ok.ensures.ok)
    (λ same. false≢true (sym c.in-Ok-false.field-0-test ∙ c.in-Ok-false.ensures.1 (same ∙ ap encode_lower (sym c.as_slice.ensures.value))))

refused : (digits bytes : List ℕ) (e : FromHexError) → (e ≡ OutOfMemory) ⊎ (decode_of digits ≡ Err e) → IsBytes bytes → digits ≡ encode_lower bytes → e ≡ OutOfMemory
refused digits bytes e (inl memory) are same = memory
refused digits bytes e (inr fault) are same = absurd (let both : ◌≡◌ {A = Result (List ℕ) FromHexError} (Err e) (Ok bytes) = sym fault ∙ ap decode_of same ∙ decode_of-encode_lower bytes are in cc both)

pub returns-in-Err : goal.returns-in-Err
returns-in-Err c =
    record { found = tt; all = λ bytes are same. c.stop_of.ensures (refused c.args.digits.now bytes c.in-Err.error c.in-Err.ensures.err are same) }
