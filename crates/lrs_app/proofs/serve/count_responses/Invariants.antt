use Rattle.std.proofs.Common.{◌≡◌, ◌≤◌, ◌+◌, ◌-◌, ◌^◌, length, drop, min}
use Rattle.lrs_app.specs.Service.{receipts_of_all, responses_of}
use Rattle.lrs_app.proofs.serve.count_responses.Given as goal

-- the responses so far and those of the workers to come are those of all
abbrev pub invariant-loop-of_one : goal.invariant-loop-of_one
invariant-loop-of_one l = (l.responses ≤ 2 ^ 64 - 1) × (min (l.responses + length (receipts_of_all (drop l.of_one-index l.talks))) (2 ^ 64 - 1) ≡ responses_of l.talks)
