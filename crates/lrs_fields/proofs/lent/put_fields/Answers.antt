-- One field more is written.
use Rattle.std.proofs.Common.{◌++◌, false, map}
use Rattle.std.proofs.lemmas.Result.{on_ok_weaker}
use Rattle.lrs_json.specs.View.{members_of}
use Rattle.lrs_json.specs.Written.{members_text}
use Rattle.lrs_json.proofs.Extending.{extends_trans}
use Rattle.lrs_fields.specs.Values.{HoldsValue, lent, members_for}
use Rattle.lrs_fields.proofs.Appended.{all_end, all_from, field_more, fields_end}
use Rattle.lrs_fields.proofs.lent.put_fields.Goals as goal

pub loop-i-preserved : goal.loop-i-preserved
loop-i-preserved c =
    let fs = c.args.fields.now in
    let f = c.index-fields-i.result in (
      extends_trans _ _ _ c.loop-i.invariant.0 c.in_ok-put_field.ensures.kept,
      field_more fs (λ field. (field.0.now, lent field.1)) c.loop-i.i f c.loop-i.into.items c.put_field.new.into.items
          (c.args.into.now.items ++ members_text false (members_of (members_for (map (λ field. (field.0.now, lent field.1)) fs))))
          c.loop-i-test.true c.index-fields-i.is c.in_ok-put_field.ensures.ok c.loop-i.invariant.1,
      λ rest. c.loop-i.invariant.2 (all_from fs (λ field. HoldsValue (lent field.1)) c.loop-i.i f c.loop-i-test.true c.index-fields-i.is c.in_ok-put_field.ensures.holds rest),
    )

pub returns-in_err-put_field-clause-kept : goal.returns-in_err-put_field-clause-kept
returns-in_err-put_field-clause-kept c = extends_trans _ _ _ c.loop-i.invariant.0 c.put_field.ensures.kept

pub returns-clause-ok : goal.returns-clause-ok
returns-clause-ok c =
    let fs = c.args.fields.now in
    on_ok_weaker c.put.result
    (λ closed. fields_end fs (λ field. (field.0.now, lent field.1)) c.loop-i.i c.loop-i.into.items c.put.new.into.items
    (c.args.into.now.items ++ members_text false (members_of (members_for (map (λ field. (field.0.now, lent field.1)) fs))))
    c.loop-i-test.false closed c.loop-i.invariant.1)
    c.put.ensures.ok

pub returns-clause-kept : goal.returns-clause-kept
returns-clause-kept c = extends_trans _ _ _ c.loop-i.invariant.0 c.put.ensures.kept

pub returns-clause-holds : goal.returns-clause-holds
returns-clause-holds c =
    on_ok_weaker c.put.result (λ closed. c.loop-i.invariant.2 (all_end c.args.fields.now (λ field. HoldsValue (lent field.1)) c.loop-i.i c.loop-i-test.false)) c.put.ensures.ok
