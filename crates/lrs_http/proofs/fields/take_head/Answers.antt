use Rattle.std.proofs.Common.{◌∙◌, sym, ap, inr, take}
use Rattle.std.specs.Prelude.{map}
use Rattle.std.proofs.lemmas.Result.{err_from_is_err_and}
use Rattle.httparse.specs.Spans.{header_bytes}
use Rattle.lrs_http.specs.declared.request.Method.{Method}
use Rattle.lrs_http.specs.Head.{method_of, path_of, query_of, body_length, request_of}
use Rattle.lrs_http.specs.Prospect.{parts_at}
use Rattle.lrs_http.proofs.FieldLemmas.{announced_in_order, refused_text, few_taken}
use Rattle.lrs_http.proofs.fields.take_head.Goals as goal

pub returns-in_err-texts-clause-refused : goal.returns-in_err-texts-clause-refused
unfolding parts_at
returns-in_err-texts-clause-refused c =
    let p = err_from_is_err_and c.from_residual.result c.from_residual.ensures.1 in
    let few = few_taken c.args.bytes.now c.args.fields.now c.args.spans.headers c.requires.few in
    rw (p.1, p.2) (refused_text (parts_at c.args.bytes.now c.args.fields.now c.args.spans) _ few c.in_err-texts.ensures.refused)

pub returns-in_err-length-clause-refused : goal.returns-in_err-length-clause-refused
unfolding parts_at
returns-in_err-length-clause-refused c =
    let p = err_from_is_err_and c.from_residual-in_err-length.result c.from_residual-in_err-length.ensures.1 in
    let few = few_taken c.args.bytes.now c.args.fields.now c.args.spans.headers c.requires.few in
    let fields = map (header_bytes c.args.bytes.now) (take c.args.spans.headers c.args.fields.now) in
    let same = c.method_of-method.ensures ∙ ap method_of c.of.ensures in
    let known = announced_in_order (parts_at c.args.bytes.now c.args.fields.now c.args.spans) few c.in_ok-texts.ensures.texts in
    rw (p.1, p.2) (inr (known ∙ sym (c.body_length.ensures.value ∙ ap (λ (m : Method). body_length m fields) same) ∙ c.in_err-length.was))

pub returns-clause-request : goal.returns-clause-request
unfolding request_of parts_at
returns-clause-request c = λ i. record {
  method = (c.method_of-method.ensures ∙ ap method_of c.of.ensures) i;
  path = (c.in_ok-path.ensures.path ∙ ap path_of c.of-2.ensures) i;
  query = (c.in_ok-path.ensures.query ∙ ap query_of c.of-2.ensures) i;
  version = c.in_ok-texts.ensures.version i;
  credential = c.in_ok-texts.ensures.credential i;
  media = c.in_ok-texts.ensures.media i;
  closes = c.closes.ensures i;
  body = c.new.ensures i;
}

pub returns-clause-length : goal.returns-clause-length
unfolding parts_at
returns-clause-length c =
    let few = few_taken c.args.bytes.now c.args.fields.now c.args.spans.headers c.requires.few in
    let fields = map (header_bytes c.args.bytes.now) (take c.args.spans.headers c.args.fields.now) in
    let same = c.method_of-method.ensures ∙ ap method_of c.of.ensures in
    let known = announced_in_order (parts_at c.args.bytes.now c.args.fields.now c.args.spans) few c.in_ok-texts.ensures.texts in
    known ∙ sym (c.body_length.ensures.value ∙ ap (λ (m : Method). body_length m fields) same) ∙ c.in_ok-length.was
