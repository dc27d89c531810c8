use Rattle.std.proofs.Common.{sym, ◌∙◌}
use Rattle.xapi_search.proofs.Walked.{noted_before, noted_now}
use Rattle.xapi_search.proofs.references.note.Goals as goal

pub returns-then-not-added : goal.returns-then-not-added
returns-then-not-added c =
    noted_before c.args.position c.args.found.now c.insert.new.self c.args.left.now.items c.in_ok-added.ensures.updates (sym c.if-not-added.true ∙ c.in_ok-added.ensures.added)

pub returns : goal.returns
returns c =
    noted_now c.args.position c.args.found.now c.insert.new.self c.args.left.now.items c.push.new.self.items c.in_ok-added.ensures.updates c.in_ok-push.ensures.items
