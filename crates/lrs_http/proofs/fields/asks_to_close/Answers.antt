use Rattle.std.proofs.Common.{◌∙◌, ◌+◌, ◌<◌, sym, ap, length, arith}
use Rattle.lrs_http.specs.Fields.{asks_to_close}
use Rattle.lrs_http.proofs.FieldLemmas.{closes_true, closes_none, closes_later}
use Rattle.lrs_media.proofs.Trimming.{rest_of}
use Rattle.lrs_http.proofs.fields.asks_to_close.Goals as goal

pub returns-then-is_close : goal.returns-then-is_close
returns-then-is_close c =
    sym (c.elements.invariant ∙ closes_true c.elements.rest.now c.comma_at-at.result c.comma_at-at.ensures.value c.comma_at-at.ensures.within (sym c.is_close.ensures ∙ c.if-is_close.true))

pub returns-then-at-rest : goal.returns-then-at-rest
returns-then-at-rest c =
    sym (c.elements.invariant ∙ closes_none c.elements.rest.now c.comma_at-at.result c.comma_at-at.ensures.value c.if-at-rest.true (sym c.is_close.ensures ∙ c.if-is_close.false))

pub elements-preserved : goal.elements-preserved
elements-preserved c =
    let less : c.comma_at-at.result < length c.elements.rest.now = omega (arith, c.comma_at-at.ensures.within, c.if-at-rest.false) in
    c.elements.invariant ∙ closes_later c.elements.rest.now c.comma_at-at.result c.comma_at-at.ensures.value less (sym c.is_close.ensures ∙ c.if-is_close.false)
    ∙ sym (ap asks_to_close (rest_of (c.comma_at-at.result + 1) c.elements.rest.now))
