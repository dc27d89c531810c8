use Rattle.std.proofs.Common.{◌∙◌, ◌+◌, sym, ap, get_or, drop, Some}
use Rattle.std.specs.Prelude.{map}
use Rattle.std.proofs.lemmas.List.{drop_all}
use Rattle.httparse.specs.Spans.{header_bytes}
use Rattle.lrs_http.specs.Fields.{first_value}
use Rattle.lrs_http.proofs.FieldLemmas.{named_at, blank_span, first_here, first_later, first_none, fields_from}
use Rattle.lrs_http.proofs.fields.first_value.Goals as goal

pub returns-then-eq_ignore_ascii_case : goal.returns-then-eq_ignore_ascii_case
returns-then-eq_ignore_ascii_case c =
    let split = fields_from c.args.bytes.now c.args.fields.now c.loop-field.field-index blank_span c.loop-field-test.true in
    let is = named_at c.eq_ignore_ascii_case.result c.of.result.now c.args.name.now (header_bytes c.args.bytes.now (get_or c.args.fields.now c.loop-field.field-index blank_span)) c.eq_ignore_ascii_case.ensures.test c.of.ensures in
    let named = sym is ∙ c.if-eq_ignore_ascii_case.true in
    ap Some c.of-then-eq_ignore_ascii_case.ensures
    ∙ sym (c.loop-field.invariant ∙ ap (λ l. first_value c.args.name.now l) split ∙ first_here c.args.name.now (header_bytes c.args.bytes.now (get_or c.args.fields.now c.loop-field.field-index blank_span)) (map (header_bytes c.args.bytes.now) (drop (c.loop-field.field-index + 1) c.args.fields.now)) named)

pub loop-field-preserved : goal.loop-field-preserved
loop-field-preserved c =
    let split = fields_from c.args.bytes.now c.args.fields.now c.loop-field.field-index blank_span c.loop-field-test.true in
    let is = named_at c.eq_ignore_ascii_case.result c.of.result.now c.args.name.now (header_bytes c.args.bytes.now (get_or c.args.fields.now c.loop-field.field-index blank_span)) c.eq_ignore_ascii_case.ensures.test c.of.ensures in
    let named = sym is ∙ c.if-eq_ignore_ascii_case.false in
    c.loop-field.invariant ∙ ap (λ l. first_value c.args.name.now l) split ∙ first_later c.args.name.now (header_bytes c.args.bytes.now (get_or c.args.fields.now c.loop-field.field-index blank_span)) (map (header_bytes c.args.bytes.now) (drop (c.loop-field.field-index + 1) c.args.fields.now)) named

pub returns : goal.returns
returns c =
    sym (c.loop-field.invariant ∙ ap (λ l. first_value c.args.name.now (map (header_bytes c.args.bytes.now) l)) (drop_all c.loop-field.field-index c.args.fields.now c.loop-field-test.false) ∙ first_none c.args.name.now)
