use Rattle.std.proofs.Common.{◌++◌, sym, ◌∙◌}
use Rattle.std.specs.List.{flat_map}
use Rattle.lrs_json.specs.Written.{escaped}
use Rattle.lrs_json.proofs.Behind.{none_behind, some_behind}
use Rattle.lrs_json.proofs.Escaping.{run_behind}
use Rattle.lrs_json.proofs.matching.behind_run.Goals as goal

pub returns-in_err-left-clause-left : goal.returns-in_err-left-clause-left
returns-in_err-left-clause-left c =
    let whole = run_behind c.args.text.now _ _ _ c.plain_len.ensures.value c.split_at.ensures.front c.split_at.ensures.back in
    rw (c.from_residual.ensures, ← whole) (sym (none_behind _ _ c.args.bytes.now c.behind.result c.behind.ensures c.in_err-left.was))

pub returns-in_err-behind_byte-in-Some-clause-left : goal.returns-in_err-behind_byte-in-Some-clause-left
returns-in_err-behind_byte-in-Some-clause-left c =
    let whole = run_behind c.args.text.now _ _ _ c.plain_len.ensures.value c.split_at.ensures.front c.split_at.ensures.back in
    let byte = c.in-Some.byte.now in
    rw (c.from_residual-in_err-behind_byte-in-Some.ensures, ← whole, c.in-Some.ensures.cases.0)
    (sym (some_behind _ (escaped byte ++ flat_map escaped c.in-Some.fewer.now) c.args.bytes.now c.behind.result c.in_ok-left.left c.behind.ensures c.in_ok-left.was
    ∙ none_behind (escaped byte) _ _ c.behind_byte.result c.behind_byte.ensures c.in_err-behind_byte-in-Some.was))

pub returns-in_ok-behind_byte-in-Some-clause-left : goal.returns-in_ok-behind_byte-in-Some-clause-left
returns-in_ok-behind_byte-in-Some-clause-left c =
    let whole = run_behind c.args.text.now _ _ _ c.plain_len.ensures.value c.split_at.ensures.front c.split_at.ensures.back in
    let byte = c.in-Some.byte.now in
    rw (← whole, c.in-Some.ensures.cases.0)
    (sym (some_behind _ (escaped byte ++ flat_map escaped c.in-Some.fewer.now) c.args.bytes.now c.behind.result c.in_ok-left.left c.behind.ensures c.in_ok-left.was
    ∙ some_behind (escaped byte) _ _ c.behind_byte.result c.in_ok-behind_byte-in-Some.field-0 c.behind_byte.ensures c.in_ok-behind_byte-in-Some.was))

pub returns-in-None-clause-left : goal.returns-in-None-clause-left
returns-in-None-clause-left c =
    let whole = run_behind c.args.text.now _ _ _ c.plain_len.ensures.value c.split_at.ensures.front c.split_at.ensures.back in
    rw (← whole) (sym (some_behind _ _ c.args.bytes.now c.behind.result c.in_ok-left.left c.behind.ensures c.in_ok-left.was))
