use Rattle.std.proofs.Common.{◌++◌, ◌≤◌, ap, Err, [], drop, length, append-nil, arith}
use Rattle.httparse.specs.Grammar.{ReadsRequest}
use Rattle.lrs_http.proofs.ReachLemmas.{no_excess}
use Rattle.lrs_http.proofs.heads.examine_crowded.Goals as goal

pub returns-in-Ok-Complete : goal.returns-in-Ok-Complete
returns-in-Ok-Complete c =
    let found = rw c.in-Ok-Complete.field-0-is at c.in-Ok-Complete.ensures.complete in
    let behind = drop c.in-Ok-Complete.field-0-0.len c.args.bytes.now in
    let same : ReadsRequest (c.args.bytes.now ++ []) found.0 behind = rw (append-nil c.args.bytes.now) found.1.reads in
    (found.0, behind, found.1.reads, c.requires.crowded [] found.0 behind same)

pub headless-requires : goal.headless-requires
headless-requires c =
    let room : 5462 ≤ length c.deref_mut.result.now = omega (arith, c.deref_mut.ensures.len, c.in_ok-room.ensures.len) in
    c.in-Err.ensures.invalid (λ e. no_excess c.args.bytes.now (length c.deref_mut.result.now) c.requires.short room (c.in-Err.ensures.too_many (ap Err e)))
