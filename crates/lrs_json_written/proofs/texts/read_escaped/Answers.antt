use Rattle.std.proofs.Common.{◌≡◌, ◌++◌, sym, ap, ◌∙◌}
use Rattle.lrs_json.specs.Written.{quoted}
use Rattle.lrs_json_reader.proofs.Escapes.{same_quoted}
use Rattle.lrs_json_reader.proofs.Parts.{err_finds}
use Rattle.lrs_json_written.proofs.Strings.{comes, not_missed, quoted_at}
use Rattle.lrs_json_written.proofs.texts.read_escaped.Goals as goal

pub returns-in_err-text-clause-all : goal.returns-in_err-text-clause-all
returns-in_err-text-clause-all c = λ t rest u e.
    let here : c.new.result ≡ quoted t ++ rest = cc (e, c.new.ensures) in
    err_finds _ _ c.from_residual.ensures.1 (λ y is. is ∙ c.in_err-text.ensures.all t rest (quoted_at t c.new.result rest u here))

pub returns-in_default-clause-all : goal.returns-in_default-clause-all
returns-in_default-clause-all c = λ t rest u e.
    let here : c.new.result ≡ quoted t ++ rest = cc (e, c.new.ensures) in
    let same = c.in_ok-text.ensures.all t rest (quoted_at t c.new.result rest u here) in
    let bytes = c.bytes-2.ensures ∙ e ∙ ap (λ s. quoted s ++ rest) (sym (c.as_bytes.ensures.lent ∙ same.0)) in
    absurd (not_missed (quoted c.as_bytes.result.now) rest c.bytes-2.result.now c.behind_quoted.result c.behind_quoted.ensures c.in_default.is bytes)

pub returns-clause-found : goal.returns-clause-found
returns-clause-found c =
    let whole = comes (quoted c.as_bytes.result.now) c.bytes-2.result.now c.behind_quoted.result c.in-Some.left c.behind_quoted.ensures c.in-Some.is in
    let bytes : c.args.cursor.now ≡ quoted c.in_ok-text.text ++ c.new-2.result = cc (whole, c.bytes-2.ensures, c.new-2.ensures) in (c.in_ok-text.ensures.found.5, bytes)

pub returns-clause-all : goal.returns-clause-all
returns-clause-all c = λ t rest u e.
    let whole = comes (quoted c.as_bytes.result.now) c.bytes-2.result.now c.behind_quoted.result c.in-Some.left c.behind_quoted.ensures c.in-Some.is in
    let bytes : c.args.cursor.now ≡ quoted c.in_ok-text.text ++ c.new-2.result = cc (whole, c.bytes-2.ensures, c.new-2.ensures) in
    same_quoted c.in_ok-text.text t c.new-2.result rest (sym bytes ∙ e)
