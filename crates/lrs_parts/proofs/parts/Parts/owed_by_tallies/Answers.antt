use Rattle.std.proofs.Common.{◌≡◌, ◌∙◌, IfOk, List, ap, subst, sym}
use Rattle.cmi5_running_verdicts.specs.Running.{TalliesStandFor}
use Rattle.cmi5_running_sessions.specs.Cmi5SessionMarked.{marked}
use Rattle.cmi5_running_verdicts.specs.Cmi5VerdictNodes.{owed, seen}
use Rattle.lrs_parts.specs.Parts.{SeenParts}
use Rattle.xapi_statement.specs.Stored.{StoredStatement}
use Rattle.lrs_parts.proofs.parts.Parts.owed_by_tallies.Goals as goal

pub returns : goal.returns
returns c =
    let e = seen c.args.enrolment.now in
    let here = subst (λ (v : SeenParts). TalliesStandFor v.progress.running (marked v.statements.held) c.args.number e) (sym c.self.view_is) c.requires in
    let stands = subst (λ (ss : List StoredStatement). TalliesStandFor c.self.inside.progress.running (marked ss) c.args.number e) (ap (λ (v : SeenParts). v.statements.held) c.self.view_is ∙ sym c.behind_held-statements.ensures.held) here in
    subst (λ (ss : List StoredStatement). IfOk c.owed.result (λ indices. indices.items ≡ owed e ss)) c.behind_held-statements.ensures.all (c.owed.ensures stands)
