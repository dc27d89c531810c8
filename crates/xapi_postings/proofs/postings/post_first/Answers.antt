use Rattle.xapi_postings.proofs.Changing.{put_first}
use Rattle.xapi_postings.proofs.postings.post_first.Goals as goal

pub returns-clause-posted : goal.returns-clause-posted
returns-clause-posted c =
    put_first c.args.key.now c.in_ok-copy.field-0 c.args.position c.in_ok-positions.positions c.args.map.now.entries c.insert.new.self.entries
    c.in_ok-copy.ensures c.in_ok-positions.ensures c.requires c.in_ok-before.ensures.updates.0
