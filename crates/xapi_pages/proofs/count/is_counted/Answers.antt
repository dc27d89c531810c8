use Rattle.xapi_pages.proofs.Counts.{counted_at}
use Rattle.xapi_pages.proofs.count.is_counted.Goals as goal

pub returns : goal.returns
returns c = counted_at c.args.index.now.held c.len.result c.args.at c.is_voided_at.result c.len.ensures c.requires c.is_voided_at.ensures
