-- The value is that of a made statement, which breaks no rule.
use Rattle.std.proofs.Common.{◌≡◌, rules, ap, ◌∙◌}
use Rattle.lrs_json.specs.View.{view}
use Rattle.xapi_statement.specs.XapiRulesRules.{broken_rule}
use Rattle.cmi5_launch.specs.Made.{made_json}
use Rattle.cmi5_launch.proofs.Unbroken.{made_unbroken}
use Rattle.cmi5_launch.proofs.made.made_tree.Goals as goal

pub returns-clause-unbroken : goal.returns-clause-unbroken
returns-clause-unbroken c =
    let same : view c.whole.result ≡ made_json c.args.made.now c.args.actor.now c.args.activity.now c.args.publisher.now c.args.registration.now c.args.session.now = search rules in
    ap broken_rule same
    ∙ made_unbroken c.args.made.now c.args.actor.now c.args.activity.now c.args.publisher.now c.args.registration.now c.args.session.now c.requires c.text-activity.ensures.iri c.text-publisher.ensures.iri c.in_ok-context.ensures.id
