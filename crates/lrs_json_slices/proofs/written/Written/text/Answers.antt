use Rattle.std.proofs.Common.{sym, ◌∙◌}
use Rattle.lrs_json_slices.proofs.Firsts.{quote_first, text_seen}
use Rattle.lrs_json_slices.proofs.written.Written.text.Goals as goal

pub invariant_of-result : goal.invariant_of-result
invariant_of-result c =
    let first = c.if-begins_with.ensures in
    ((quote_first c.self.inside.bytes.now first.0 c.self.inside.spelled first.1).0, tt)

pub returns-then-begins_with : goal.returns-then-begins_with
returns-then-begins_with c =
    let first = c.if-begins_with.ensures in
    sym c.self.view_is ∙ text_seen c.self.inside.bytes.now first.0 c.self.inside.spelled first.1 c.result-1.given.0
