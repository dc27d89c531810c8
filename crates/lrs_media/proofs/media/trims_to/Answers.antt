use Rattle.std.proofs.Common.{◌∙◌, ap, take, rules}
use Rattle.std.specs.List.{list_all}
use Rattle.httparse.specs.Grammar.{is_ows}
use Rattle.lrs_media.proofs.Trimming.{rest_of, trimmed_is}
use Rattle.lrs_media.proofs.media.trims_to.Goals as goal

pub returns-then-eq_ignore_ascii_case : goal.returns-then-eq_ignore_ascii_case
returns-then-eq_ignore_ascii_case c =
    let rest = c.skip_white-rest.result.now in
    let end = c.min-end.result in
    let known = trimmed_is c.args.text.now c.args.word.now rest (take end rest) end c.eq_ignore_ascii_case.result c.skip_white-rest.ensures (search rules) (search rules) c.eq_ignore_ascii_case.ensures.test in
    c.all_white.ensures ∙ ap (λ l. list_all is_ows l) (rest_of end rest) ∙ (rw c.if-eq_ignore_ascii_case.true at known)

pub returns-else-eq_ignore_ascii_case : goal.returns-else-eq_ignore_ascii_case
returns-else-eq_ignore_ascii_case c =
    let rest = c.skip_white-rest.result.now in
    let end = c.min-end.result in
    let known = trimmed_is c.args.text.now c.args.word.now rest (take end rest) end c.eq_ignore_ascii_case.result c.skip_white-rest.ensures (search rules) (search rules) c.eq_ignore_ascii_case.ensures.test in
    c.if-eq_ignore_ascii_case.false ∙ (rw c.if-eq_ignore_ascii_case.false at known)
