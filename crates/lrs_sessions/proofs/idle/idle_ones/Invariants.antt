use Rattle.std.proofs.Common.{◌≡◌, ◌&&◌, ℕ}
use Rattle.std.specs.Prelude.{filter}
use Rattle.std.specs.List.{range_with_len}
use Rattle.lrs_made.specs.LrsHistoryEndings.{is_idle, is_open}
use Rattle.lrs_made.specs.LrsPartsParts.{state_of}
use Rattle.lrs_sessions.proofs.idle.idle_ones.Given as goal

-- those of the numbers so far
abbrev pub invariant-loop-number : goal.invariant-loop-number
invariant-loop-number l =
    l.numbers.items ≡ filter (λ (k : ℕ). is_idle (state_of l.parts) l.seconds l.moment k && is_open (state_of l.parts) k) (range_with_len 0 l.number)
