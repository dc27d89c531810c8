use Rattle.std.proofs.Common.{◌≡◌, ◌&&◌, ◌∙◌, ℕ, ap, arith}
use Rattle.std.specs.Prelude.{filter}
use Rattle.std.specs.List.{range_with_len}
use Rattle.lrs_made.specs.LrsHistoryEndings.{is_idle, is_open}
use Rattle.lrs_made.specs.LrsPartsParts.{state_of}
use Rattle.lrs_sessions.proofs.Filled.{passed_more}
use Rattle.lrs_sessions.proofs.idle.idle_ones.Goals as goal

pub loop-number-init : goal.loop-number-init
loop-number-init c = c.new-numbers.ensures.items

pub loop-number-preserved : goal.loop-number-preserved
loop-number-preserved c =
    let st = state_of c.args.parts.now in
    let at = c.loop-number in
    passed_more (λ (k : ℕ). is_idle st c.args.seconds c.args.moment k && is_open st k) at.numbers.items c.push_if.new.list.items at.number c.is_idle_and_open.result
    at.invariant c.in_ok-push_if.ensures c.is_idle_and_open.ensures

pub returns : goal.returns
returns c =
    let st = state_of c.args.parts.now in
    let at = c.loop-number in
    let over : at.number ≡ c.in_ok-count.count = omega arith in
    at.invariant ∙ ap (λ n. filter (λ (k : ℕ). is_idle st c.args.seconds c.args.moment k && is_open st k) (range_with_len 0 n)) (over ∙ c.in_ok-count.ensures)
