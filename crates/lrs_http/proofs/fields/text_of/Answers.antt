use Rattle.std.proofs.Common.{◌∙◌, ap, refl, inr, Some}
use Rattle.std.proofs.lemmas.Str.{is_utf8-from_IsUtf8}
use Rattle.lrs_http.specs.Fields.{is_text}
use Rattle.lrs_http.proofs.FieldLemmas.{no_utf8}
use Rattle.lrs_http.proofs.fields.text_of.Goals as goal

pub returns-in_ok-of-in-Ok-clause-text : goal.returns-in_ok-of-in-Ok-clause-text
unfolding is_text
returns-in_ok-of-in-Ok-clause-text c =
    rw c.in-Some.is (ap Some (c.in_ok-of-in-Ok.ensures.copied ∙ c.in-Ok.ensures.cases.0), is_utf8-from_IsUtf8 c.in-Some.value.now c.in-Ok.ensures.cases.1)

pub returns-in-Err-clause-refused : goal.returns-in-Err-clause-refused
unfolding is_text
returns-in-Err-clause-refused c = rw c.in-Some.is (inr (refl, no_utf8 c.in-Some.value.now c.in-Err.ensures.cases.0))
