use Rattle.std.proofs.Common.{◌≡◌, ◌∙◌, sym, ap, refl, true}
use Rattle.std.specs.Prelude.{map, codes}
use Rattle.std.proofs.lemmas.Result.{err_from_is_err_and}
use Rattle.httparse.specs.Spans.{header_bytes}
use Rattle.lrs_http.specs.Fields.{is_text, first_value}
use Rattle.lrs_http.specs.Head.{has_texts}
use Rattle.lrs_http.proofs.FieldLemmas.{no_media, no_version}
use Rattle.lrs_http.proofs.fields.texts_of.Goals as goal

pub returns-clause-texts : goal.returns-clause-texts
unfolding has_texts
returns-clause-texts c =
    let fields = map (header_bytes c.args.bytes.now) c.args.fields.now in
    let one : is_text (first_value (codes "authorization") fields) ≡ true = ap is_text (sym c.first_value.ensures) ∙ c.in_ok-credential.ensures.text.1 in
    let two : is_text (first_value (codes "content-type") fields) ≡ true = ap is_text (sym c.first_value-2.ensures) ∙ c.in_ok-media.ensures.text.1 in
    let three : is_text (first_value (codes "x-experience-api-version") fields) ≡ true = ap is_text (sym c.first_value-3.ensures) ∙ c.in_ok-version.ensures.text.1 in
    rw (one, two, three) refl

pub returns-clause-media : goal.returns-clause-media
returns-clause-media c = c.in_ok-media.ensures.text.0 ∙ c.first_value-2.ensures

pub returns-clause-version : goal.returns-clause-version
returns-clause-version c = c.in_ok-version.ensures.text.0 ∙ c.first_value-3.ensures

pub returns-in_err-media-clause-refused : goal.returns-in_err-media-clause-refused
returns-in_err-media-clause-refused c =
    let p = err_from_is_err_and c.from_residual-in_err-media.result c.from_residual-in_err-media.ensures.1 in
    rw (p.1, p.2) (no_media (map (header_bytes c.args.bytes.now) c.args.fields.now) _ _ c.first_value-2.ensures c.in_err-media.ensures.refused)

pub returns-in_err-version-clause-refused : goal.returns-in_err-version-clause-refused
returns-in_err-version-clause-refused c =
    let p = err_from_is_err_and c.from_residual-in_err-version.result c.from_residual-in_err-version.ensures.1 in
    rw (p.1, p.2) (no_version (map (header_bytes c.args.bytes.now) c.args.fields.now) _ _ c.first_value-3.ensures c.in_err-version.ensures.refused)
