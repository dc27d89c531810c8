use Rattle.std.proofs.Common.{List, ℕ, codes, ap, ◌∙◌}
use Rattle.lrs_json.specs.View.{view}
use Rattle.xapi_received.specs.Received.{span_after}
use Rattle.xapi_received.proofs.Keeping.{so_far_left}
use Rattle.xapi_received.proofs.marking.leave_out.Goals as goal

pub returns : goal.returns
returns c = λ all ms start so.
    let at = c.in_ok-span.span in
    so_far_left all ms start c.args.draft.now c.leave_member.new.self c.args.stands c.args.ending c.after.result c.args.part.now.name (view c.args.part.now.value) at c.requires c.in_ok-span.ensures.adds
    c.in_ok-span.ensures.within c.in_ok-span.ensures.value c.in_ok-span.ensures.name c.in_ok-span.ensures.spellable c.after.ensures.later
    (c.after.ensures.timestamp ∙ ap (λ (k : List ℕ). span_after (codes "timestamp") k at c.args.ending.timestamp) c.as_str.ensures.lent)
    (c.after.ensures.version ∙ ap (λ (k : List ℕ). span_after (codes "version") k at c.args.ending.version) c.as_str.ensures.lent) so
