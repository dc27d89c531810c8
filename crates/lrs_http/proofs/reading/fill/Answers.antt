use Rattle.std.proofs.Common.{◌∙◌, ◌+◌, ◌-◌, arith, rules}
use Rattle.lrs_http.proofs.Taking.{takes_both, takes_more}
use Rattle.lrs_http.proofs.reading.fill.Goals as goal

pub loop-at-preserved : goal.loop-at-preserved
loop-at-preserved g c =
    let so = c.loop-at.invariant in
    let here = c.in_ok-number.ensures in
    let from = so.from in
    let start = g.L.Link.left c.args.link.now in
    let mid = g.L.Link.left c.loop-at.link in
    let end = g.L.Link.left c.read_behind.new.link in
    let both = takes_both (c.loop-at.at - c.args.held) c.in_ok-number.number start mid end so.off here.off in
    record {
      within = search rules;
      told = here.given ∙ so.told;
      off = takes_more (c.loop-at.at - c.args.held + c.in_ok-number.number) (c.loop-at.at + c.in_ok-number.number - c.args.held) start end (omega (arith, from)) both;
      from = omega (arith, from);
      faults = search rules;
      stream = here.stream_kept ∙ so.stream;
      taken = here.taken_kept ∙ so.taken;
      name = here.name_kept ∙ so.name;
    }
