-- One item more is written.
use Rattle.std.proofs.Common.{◌++◌, false, map}
use Rattle.std.proofs.lemmas.Result.{on_ok_weaker}
use Rattle.lrs_json.specs.View.{elements_of, view}
use Rattle.lrs_json.specs.Written.{elements_text}
use Rattle.lrs_json.proofs.Extending.{extends_trans}
use Rattle.lrs_fields.proofs.Appended.{item_more, items_end}
use Rattle.lrs_fields.proofs.lent.put_texts.Goals as goal

pub loop-i-preserved : goal.loop-i-preserved
loop-i-preserved c = (
  extends_trans _ _ _ c.loop-i.invariant.0 c.in_ok-put_text_item.ensures.kept,
  item_more c.args.texts.now c.loop-i.i c.index-texts-i.result c.loop-i.into.items c.put_text_item.new.into.items (c.args.into.now.items ++ elements_text false (elements_of (map view c.args.texts.now)))
      c.loop-i-test.true c.index-texts-i.is c.in_ok-put_text_item.ensures.ok c.loop-i.invariant.1,
)

pub returns-in_err-put_text_item-clause-kept : goal.returns-in_err-put_text_item-clause-kept
returns-in_err-put_text_item-clause-kept c = extends_trans _ _ _ c.loop-i.invariant.0 c.put_text_item.ensures.kept

pub returns-clause-ok : goal.returns-clause-ok
returns-clause-ok c =
    on_ok_weaker c.put.result
    (λ closed. items_end c.args.texts.now c.loop-i.i c.loop-i.into.items c.put.new.into.items (c.args.into.now.items ++ elements_text false (elements_of (map view c.args.texts.now)))
    c.loop-i-test.false closed c.loop-i.invariant.1)
    c.put.ensures.ok

pub returns-clause-kept : goal.returns-clause-kept
returns-clause-kept c = extends_trans _ _ _ c.loop-i.invariant.0 c.put.ensures.kept
