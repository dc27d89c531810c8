use Rattle.std.proofs.Common.{◌∙◌, ◌+◌, sym, ap, get_or, drop, arith}
use Rattle.std.specs.Prelude.{map}
use Rattle.std.proofs.lemmas.List.{drop_all}
use Rattle.httparse.specs.Spans.{header_bytes}
use Rattle.lrs_http.specs.Fields.{count_named}
use Rattle.lrs_http.proofs.FieldLemmas.{named_at, blank_span, count_here, count_later, count_none, fields_from}
use Rattle.lrs_http.proofs.fields.count_named.Goals as goal
use Rattle.lrs_http.proofs.fields.count_named.Goals.{then-eq_ignore_ascii_case, else-eq_ignore_ascii_case}

pub loop-field-preserved : goal.loop-field-preserved
loop-field-preserved c =
    let split = fields_from c.args.bytes.now c.args.fields.now c.loop-field.field-index blank_span c.loop-field-test.true in
    let is = named_at c.eq_ignore_ascii_case.result c.of.result.now c.args.name.now (header_bytes c.args.bytes.now (get_or c.args.fields.now c.loop-field.field-index blank_span)) c.eq_ignore_ascii_case.ensures.test c.of.ensures in
    let so_far = c.loop-field.invariant.1 ∙ ap (λ l. c.loop-field.count + count_named c.args.name.now l) split in
    elim c.if-eq_ignore_ascii_case.branch [
      | then-eq_ignore_ascii_case w ↦
          let one = count_here c.args.name.now (header_bytes c.args.bytes.now (get_or c.args.fields.now c.loop-field.field-index blank_span)) (map (header_bytes c.args.bytes.now) (drop (c.loop-field.field-index + 1) c.args.fields.now)) (sym is ∙ w.if-eq_ignore_ascii_case.true) in
          (omega (arith, w.count-is, c.loop-field.invariant.0), omega (arith, so_far, one, w.count-is))
      | else-eq_ignore_ascii_case w ↦
          let none = count_later c.args.name.now (header_bytes c.args.bytes.now (get_or c.args.fields.now c.loop-field.field-index blank_span)) (map (header_bytes c.args.bytes.now) (drop (c.loop-field.field-index + 1) c.args.fields.now)) (sym is ∙ w.if-eq_ignore_ascii_case.false) in
          (omega (arith, w.count-is, c.loop-field.invariant.0), omega (arith, so_far, none, w.count-is))
    ]

pub returns : goal.returns
returns c =
    let none = ap (λ l. count_named c.args.name.now (map (header_bytes c.args.bytes.now) l)) (drop_all c.loop-field.field-index c.args.fields.now c.loop-field-test.false) in
    let zero = count_none c.args.name.now in
    omega (arith, c.loop-field.invariant.1, none, zero)
