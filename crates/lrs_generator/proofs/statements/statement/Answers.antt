use Rattle.std.proofs.Common.{map, ap, ◌∙◌}
use Rattle.lrs_json.specs.View.{member_view}
use Rattle.lrs_generator.proofs.Built.{statement_built}
use Rattle.lrs_generator.proofs.statements.statement.Goals as goal

pub returns : goal.returns
returns c =
    c.whole.ensures
    ∙ statement_built c.args.seed c.args.index c.args.number (ap (map member_view) c.new-built.ensures) c.in_ok-push_id.ensures c.id_at.ensures c.in_ok-push.ensures c.in_ok-actor.ensures
    c.in_ok-push-2.ensures c.in_ok-verb.ensures c.in_ok-push-3.ensures c.in_ok-object_of.ensures
