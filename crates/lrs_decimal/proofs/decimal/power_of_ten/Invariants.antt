use Rattle.std.proofs.Common.{◌≡◌, ◌^◌}
use Rattle.lrs_decimal.proofs.decimal.power_of_ten.Given as goal

abbrev pub invariant-loop : goal.invariant-loop
invariant-loop l = l.result ≡ 10 ^ l.counter
