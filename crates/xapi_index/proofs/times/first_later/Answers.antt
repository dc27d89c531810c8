use Rattle.std.proofs.Common.{of_calls, rules}
use Rattle.std.proofs.lemmas.Fn.{always_returns_same}
use Rattle.xapi_index.specs.Times.{is_until}
use Rattle.xapi_index.proofs.Rising.{until_parted}
use Rattle.xapi_postings.specs.XapiStatementStored.{StoredStatement}
use Rattle.xapi_index.proofs.times.first_later.Goals as goal

pub returns-clause-parted : goal.returns-clause-parted
returns-clause-parted c =
    c.partition_point.ensures.partitioned (λ (s : StoredStatement). is_until c.args.instant s) (always_returns_same _ _ _ (λ a r f k. search (rules, of_calls)))
    (until_parted c.args.held.now c.args.instant c.requires)
