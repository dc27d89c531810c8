use Rattle.std.proofs.Common.{◌≡◌, ◌≤◌, ◌+◌, ◌-◌, ◌^◌, length, drop, min}
use Rattle.lrs_hall.specs.Serving.{all_receipts}
use Rattle.lrs_app.proofs.serve.count_of_one.Given as goal

-- the responses so far and those of the talks to come are those of all
abbrev pub invariant-loop-talk : goal.invariant-loop-talk
invariant-loop-talk l =
    (l.responses ≤ 2 ^ 64 - 1) × (min (l.responses + length (all_receipts (drop l.talk-index l.talks))) (2 ^ 64 - 1) ≡ min (length (all_receipts l.talks)) (2 ^ 64 - 1))
