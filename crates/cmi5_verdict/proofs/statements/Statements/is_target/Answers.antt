use Rattle.std.proofs.Common.{◌∙◌, ◌||◌, sym, ap}
use Rattle.std.specs.List.{list_any}
use Rattle.std.proofs.lemmas.List.Folds.{list_any-append}
use Rattle.cmi5_session.specs.XapiStatementStatements.{voids}
use Rattle.cmi5_verdict.proofs.statements.Statements.is_target.Goals as goal

pub returns-then-is_target : goal.returns-then-is_target
returns-then-is_target c =
    let held = c.args.self.now.held.now.held in
    let new = c.args.self.now.new.now in
    let test = voids c.args.id.now in
    sym (list_any-append test held new ∙ ap (λ b. b || list_any test new) (sym c.is_target.ensures ∙ c.if-is_target.true))

pub returns : goal.returns
returns c =
    let held = c.args.self.now.held.now.held in
    let new = c.args.self.now.new.now in
    let test = voids c.args.id.now in
    c.is_target_of.ensures ∙ sym (list_any-append test held new ∙ ap (λ b. b || list_any test new) (sym c.is_target.ensures ∙ c.if-is_target.false))
