use Rattle.std.proofs.Common.{◌≡◌, ◌∙◌, ◌+◌, ◌-◌, ◌≤◌, List, ℕ, Option, subst, length, vec_len, arith, rules}
use Rattle.std.proofs.lemmas.Result.{err_from_is_err_and, IfErr-weaker}
use Rattle.lrs_http.specs.declared.request.RequestRefused.{RequestRefused}
use Rattle.lrs_http.specs.Links.{GivesRefusal, stream_left}
use Rattle.lrs_http.specs.Prospect.{IsRequestRefused, IsJudged}
use Rattle.lrs_http.proofs.NextLemmas.{refused_early, refused_last}
use Rattle.lrs_http.proofs.Taking.{takes_both, takes_more}
use Rattle.lrs_http.specs.declared.heads.TheConstants.{LONGEST_HEAD}
use Rattle.lrs_http.proofs.reading.read_head.Goals as goal

pub returns-in_err-spans-clause-refused : goal.returns-in_err-spans-clause-refused
returns-in_err-spans-clause-refused g c =
    let p = err_from_is_err_and c.from_residual.result c.from_residual.ensures.1 in
    let e = c.in_err-spans.field-0.0 in
    let at : IsRequestRefused c.loop-search.kept.items e = subst (λ (l : List ℕ). IsRequestRefused l e) c.deref-in-loop-search.ensures.value c.in_err-spans.ensures.refused in
    rw (p.1, p.2) (subst (λ (o : Option (List ℕ)). GivesRefusal o e) c.loop-search.invariant.told (refused_early c.loop-search.kept.items (g.L.Link.left c.loop-search.link) e at))

pub returns-then-not-branch-clause-refused : goal.returns-then-not-branch-clause-refused
returns-then-not-branch-clause-refused g c =
    let kept = c.read_piece.new.kept.items in
    let left = g.L.Link.left c.read_piece.new.link in
    let told = c.read_piece.ensures.left ∙ c.loop-search.invariant.told in
    let ends = c.in_ok-read_piece.ensures.end c.if-not-branch.true in
    IfErr-weaker c.judge.result (λ (e : RequestRefused). IsJudged c.deref-then-not-branch.result.now e) (λ (e : RequestRefused). GivesRefusal (stream_left c.args.kept.now.items (g.L.Link.left c.args.link.now)) e)
    (λ e known. subst (λ (o : Option (List ℕ)). GivesRefusal o e) told (refused_last kept left e (λ _. ends) (subst (λ (l : List ℕ). IsJudged l e) c.deref-then-not-branch.ensures.value known)))
    c.judge.ensures.refused

pub returns-clause-refused : goal.returns-clause-refused
returns-clause-refused g c =
    let kept = c.loop-search.kept.items in
    let left = g.L.Link.left c.loop-search.link in
    let size : length kept ≡ c.len.result = search rules in
    IfErr-weaker c.judge-2.result (λ (e : RequestRefused). IsJudged c.deref-2.result.now e) (λ (e : RequestRefused). GivesRefusal (stream_left c.args.kept.now.items (g.L.Link.left c.args.link.now)) e)
    (λ e known. subst (λ (o : Option (List ℕ)). GivesRefusal o e) c.loop-search.invariant.told
    (refused_last kept left e (λ less. absurd (omega (arith, less, size, c.loop-search-test.false))) (subst (λ (l : List ℕ). IsJudged l e) c.deref-2.ensures.value known)))
    c.judge-2.ensures.refused

pub returns-in_err-read_piece-clause-off : goal.returns-in_err-read_piece-clause-off
returns-in_err-read_piece-clause-off g c =
    let so = c.loop-search.invariant in
    let here = c.read_piece.ensures in
    let first = vec_len c.args.kept.now in
    let held = vec_len c.loop-search.kept in
    let last = vec_len c.read_piece.new.kept in
    let grows = so.grows in
    let more = here.grows.0 in
    let few = here.grows.1 in
    let both = takes_both (held - first) (last - held) (g.L.Link.left c.args.link.now) (g.L.Link.left c.loop-search.link) (g.L.Link.left c.read_piece.new.link) so.off here.off in
    takes_more (held - first + (last - held)) LONGEST_HEAD (g.L.Link.left c.args.link.now) (g.L.Link.left c.read_piece.new.link) (omega (arith, grows, more, few)) both

pub returns-then-not-branch-clause-off : goal.returns-then-not-branch-clause-off
returns-then-not-branch-clause-off g c =
    let so = c.loop-search.invariant in
    let here = c.read_piece.ensures in
    let first = vec_len c.args.kept.now in
    let held = vec_len c.loop-search.kept in
    let last = vec_len c.read_piece.new.kept in
    let grows = so.grows in
    let more = here.grows.0 in
    let few = here.grows.1 in
    let both = takes_both (held - first) (last - held) (g.L.Link.left c.args.link.now) (g.L.Link.left c.loop-search.link) (g.L.Link.left c.read_piece.new.link) so.off here.off in
    takes_more (held - first + (last - held)) LONGEST_HEAD (g.L.Link.left c.args.link.now) (g.L.Link.left c.read_piece.new.link) (omega (arith, grows, more, few)) both

pub loop-search-preserved : goal.loop-search-preserved
loop-search-preserved g c =
    let so = c.loop-search.invariant in
    let here = c.read_piece.ensures in
    let first = vec_len c.args.kept.now in
    let held = vec_len c.loop-search.kept in
    let last = vec_len c.read_piece.new.kept in
    let grows = so.grows in
    let more = here.grows.0 in
    let few = here.grows.1 in
    let both = takes_both (held - first) (last - held) (g.L.Link.left c.args.link.now) (g.L.Link.left c.loop-search.link) (g.L.Link.left c.read_piece.new.link) so.off here.off in
    record {
      told = here.left ∙ so.told;
      grows = omega (arith, grows, more);
      few = λ _. few;
      short = omega (arith, few);
      off = takes_more (held - first + (last - held)) (last - first) (g.L.Link.left c.args.link.now) (g.L.Link.left c.read_piece.new.link) (omega (arith, grows, more)) both;
      faults = c.in_ok-read_piece.ensures.cause ∙ so.faults;
      stream = here.stream_kept ∙ so.stream;
      taken = here.taken_kept ∙ so.taken;
      name = here.name_kept ∙ so.name;
    }

pub returns-clause-off : goal.returns-clause-off
returns-clause-off g c =
    let so = c.loop-search.invariant in
    takes_more (vec_len c.loop-search.kept - vec_len c.args.kept.now) LONGEST_HEAD (g.L.Link.left c.args.link.now) (g.L.Link.left c.loop-search.link) so.short so.off
