use Rattle.std.proofs.Common.{◌≡◌, ◌∙◌, ◌+◌, List, ℕ, Option, Err, Ok, Result, sym, ap, subst, length, arith, rules, vec_len}
use Rattle.std.specs.Prelude.{◌⊎◌, IsUtf8}
use Rattle.std.proofs.lemmas.List.{length-take}
use Rattle.std.proofs.lemmas.Result.{err_from_is_err_and}
use Rattle.httparse.specs.Spans.{span_bytes}
use Rattle.lrs_http.specs.declared.request.RequestRefused.{RequestRefused}
use Rattle.lrs_http.specs.declared.request.RequestRefused.TheVariants as refused
use Rattle.lrs_http.specs.Head.{announced, request_of}
use Rattle.lrs_http.specs.Links.{GivesRefusal}
use Rattle.lrs_http.specs.Prospect.{parts_at}
use Rattle.lrs_http.specs.Stream.{window}
use Rattle.lrs_http.proofs.NextLemmas.{target_text, refused_head, refused_body, next_given, with_its_body}
use Rattle.lrs_http.proofs.Taking.{takes_both, takes_more}
use Rattle.lrs_http.proofs.reading.read_request.Goals as goal
use Rattle.lrs_http.specs.declared.fields.TheConstants.{LONGEST_BODY}
use Rattle.lrs_http.specs.declared.heads.TheConstants.{LONGEST_HEAD}

pub take_head-requires-clause-text : goal.take_head-requires-clause-text
take_head-requires-clause-text g c =
    let kept = c.read_head.new.kept.items in
    let here : c.window_of.result.now ≡ window kept = c.window_of.ensures.value ∙ ap window c.deref.ensures.value in
    subst (λ (l : List ℕ). IsUtf8 (span_bytes l c.in_ok-spans.spans.path)) (sym here) (target_text kept c.read_head.new.fields c.in_ok-spans.spans c.in_ok-spans.ensures.head)

pub returns-in_err-request-clause-next : goal.returns-in_err-request-clause-next
returns-in_err-request-clause-next g c =
    let p = err_from_is_err_and c.from_residual-in_err-request.result c.from_residual-in_err-request.ensures.1 in
    let kept = c.read_head.new.kept.items in
    let fields = c.read_head.new.fields in
    let spans = c.in_ok-spans.spans in
    let e = c.in_err-request.field-0.0 in
    let here : c.window_of.result.now ≡ window kept = c.window_of.ensures.value ∙ ap window c.deref.ensures.value in
    let why = subst (λ (l : List ℕ). (e ≡ refused.Memory) ⊎ (announced (parts_at l fields spans) ≡ Err e)) here c.in_err-request.ensures.refused in
    rw (p.1, p.2) (subst (λ (o : Option (List ℕ)). GivesRefusal o e) c.read_head.ensures.left (refused_head kept (g.L.Link.left c.read_head.new.link) fields spans e c.in_ok-spans.ensures.head why))

pub read_body-requires : goal.read_body-requires
read_body-requires g c =
    let kept = c.read_head.new.kept.items in
    let size : length kept ≡ vec_len c.read_head.new.kept = search rules in
    let front = length-take LONGEST_HEAD kept in
    omega (arith, c.in_ok-spans.ensures.head.within.section.len_fits, front, size)

pub returns-in_err-request-2-clause-next : goal.returns-in_err-request-2-clause-next
returns-in_err-request-2-clause-next g c =
    let p = err_from_is_err_and c.from_residual-in_err-request-2.result c.from_residual-in_err-request-2.ensures.1 in
    let kept = c.read_head.new.kept.items in
    let fields = c.read_head.new.fields in
    let spans = c.in_ok-spans.spans in
    let e = c.in_err-request-2.field-0.0 in
    let here : c.window_of.result.now ≡ window kept = c.window_of.ensures.value ∙ ap window c.deref.ensures.value in
    let is = subst (λ (l : List ℕ). let o : Result ℕ RequestRefused = Ok c.in_ok-request.size in announced (parts_at l fields spans) ≡ o) here c.in_ok-request.ensures.length in
    rw (p.1, p.2) (subst (λ (o : Option (List ℕ)). GivesRefusal o e) c.read_head.ensures.left
    (refused_body kept (g.L.Link.left c.read_head.new.link) fields spans c.in_ok-request.size e c.in_ok-spans.ensures.head is c.in_err-request-2.ensures.refused))

pub returns-clause-next : goal.returns-clause-next
returns-clause-next g c =
    let kept = c.read_head.new.kept.items in
    let fields = c.read_head.new.fields in
    let spans = c.in_ok-spans.spans in
    let body = c.in_ok-request-2.field-0 in
    let left = g.L.Link.left c.read_head.new.link in
    let here : c.window_of.result.now ≡ window kept = c.window_of.ensures.value ∙ ap window c.deref.ensures.value in
    let is = subst (λ (l : List ℕ). let o : Result ℕ RequestRefused = Ok c.in_ok-request.size in announced (parts_at l fields spans) ≡ o) here c.in_ok-request.ensures.length in
    let same = with_its_body (parts_at c.window_of.result.now fields spans) c.in_ok-request.request body c.in_ok-request.ensures.request ∙ ap (λ (l : List ℕ). request_of (parts_at l fields spans) body) here in
    next_given _ kept left _ fields spans c.in_ok-request.size _ body c.read_head.ensures.left c.in_ok-spans.ensures.head is c.in_ok-request-2.ensures.body same

pub returns-in_err-request-2-clause-bounded : goal.returns-in_err-request-2-clause-bounded
returns-in_err-request-2-clause-bounded g c =
    let start = g.L.Link.left c.args.link.now in
    let mid = g.L.Link.left c.read_head.new.link in
    let end = g.L.Link.left c.read_body.new.link in
    let size = c.in_ok-request.size in
    let bound = c.in_ok-request.ensures.bound in
    takes_more (LONGEST_HEAD + size) (LONGEST_HEAD + LONGEST_BODY) start end (omega (arith, bound)) (takes_both LONGEST_HEAD size start mid end c.read_head.ensures.off c.read_body.ensures.off)

pub returns-clause-bounded : goal.returns-clause-bounded
returns-clause-bounded g c =
    let start = g.L.Link.left c.args.link.now in
    let mid = g.L.Link.left c.read_head.new.link in
    let end = g.L.Link.left c.read_body.new.link in
    let size = c.in_ok-request.size in
    let bound = c.in_ok-request.ensures.bound in
    takes_more (LONGEST_HEAD + size) (LONGEST_HEAD + LONGEST_BODY) start end (omega (arith, bound)) (takes_both LONGEST_HEAD size start mid end c.read_head.ensures.off c.read_body.ensures.off)
