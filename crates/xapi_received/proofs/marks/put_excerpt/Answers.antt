use Rattle.std.proofs.Common.{◌++◌, List, ℕ, ap, ◌∙◌}
use Rattle.std.proofs.lemmas.Result.{on_ok_weaker}
use Rattle.xapi_received.specs.Received.{bracket_text, bytes_at}
use Rattle.xapi_received.proofs.marks.put_excerpt.Goals as goal
use Rattle.lrs_json.proofs.Pieces.{behind}

pub returns-clause-ok : goal.returns-clause-ok
returns-clause-ok c =
    let old = c.args.into.now.items in
    on_ok_weaker c.put_bracket.result (λ e. behind old c.put.new.into.items c.put_bracket.new.into.items (bytes_at c.args.text.now c.args.excerpt.span) (bracket_text c.args.excerpt.bracket)
    (c.in_ok-put.ensures.ok ∙ ap (λ (t : List ℕ). old ++ t) c.of-bytes.ensures) e) c.put_bracket.ensures.ok
