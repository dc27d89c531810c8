use Rattle.std.proofs.Common.{sym, ◌∙◌}
use Rattle.lrs_json_reader.proofs.StepLemmas.{at_end, at_item, at_comma, at_fault}
use Rattle.lrs_json_reader.proofs.cursor.Cursor.goes_on.Goals as goal

pub returns-then-take : goal.returns-then-take
returns-then-take c = at_end c.args.later c.args.close c.args.self.now c.skip_spaces.new.self c.take.new.self c.requires c.skip_spaces.ensures c.if-take.ensures

pub returns-in_err-word : goal.returns-in_err-word
returns-in_err-word c =
    at_fault c.args.later c.args.close c.args.self.now c.skip_spaces.new.self c.word.new.self c.from_residual.result c.requires c.if-later.true c.skip_spaces.ensures c.if-take.ensures.1 c.from_residual.ensures.1
    (λ y rest is s. is ∙ c.in_err-word.ensures.all rest (c.if-take.ensures.0 ∙ s))

pub returns-in_ok-word : goal.returns-in_ok-word
returns-in_ok-word c =
    at_comma c.args.later c.args.close c.args.self.now c.skip_spaces.new.self c.word.new.self _ c.requires c.if-later.true c.skip_spaces.ensures c.if-take.ensures.1 (sym c.if-take.ensures.0 ∙ c.in_ok-word.ensures.found)
    c.skip_spaces-then-later.ensures

pub returns-else-later : goal.returns-else-later
returns-else-later c =
    at_item c.args.later c.args.close c.args.self.now c.take.new.self c.requires c.if-later.false (c.if-take.ensures.0 ∙ c.skip_spaces.ensures) (λ rest e. c.if-take.ensures.1 rest (sym c.if-take.ensures.0 ∙ e))
