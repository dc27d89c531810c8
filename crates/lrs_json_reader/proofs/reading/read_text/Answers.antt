use Rattle.std.proofs.Common.{sym, ap, ◌∙◌, true≢false}
use Rattle.lrs_decimal.proofs.Runs.{behind}
use Rattle.lrs_json_reader.specs.Grammar.{is_space}
use Rattle.lrs_json_reader.proofs.Whole.{text_err, text_done, text_missing, text_longer}
use Rattle.lrs_json_reader.proofs.reading.read_text.Goals as goal

pub returns-in_err-tree : goal.returns-in_err-tree
returns-in_err-tree c =
    text_err c.args.bytes.now _ c.from_residual.ensures.1 (λ y is p t.
    is ∙ text_missing c.args.bytes.now (record { cursor = c.skip_spaces.new.self; flaws = c.new-reader.result.flaws }) _ (c.skip_spaces.ensures ∙ ap (behind is_space) c.new-reader.ensures.cursor) c.in_err-tree.ensures.reads p t)

pub returns-then-is_empty : goal.returns-then-is_empty
returns-then-is_empty c =
    text_done c.args.bytes.now _ _ (record { cursor = c.skip_spaces.new.self; flaws = c.new-reader.result.flaws }) _ (c.skip_spaces.ensures ∙ ap (behind is_space) c.new-reader.ensures.cursor) c.new-reader.ensures.flaws c.in_ok-tree.ensures.reads
    c.skip_spaces-2.ensures (c.is_empty.ensures.0 c.if-is_empty.true)

pub returns : goal.returns
returns c = λ p t.
    absurd (text_longer c.args.bytes.now _ _ (record { cursor = c.skip_spaces.new.self; flaws = c.new-reader.result.flaws }) _ (c.skip_spaces.ensures ∙ ap (behind is_space) c.new-reader.ensures.cursor) c.in_ok-tree.ensures.reads c.skip_spaces-2.ensures
    (λ e. true≢false (sym (c.is_empty.ensures.1 e) ∙ c.if-is_empty.false)) p t)
