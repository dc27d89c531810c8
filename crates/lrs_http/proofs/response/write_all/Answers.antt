use Rattle.std.proofs.Common.{◌∙◌, rules}
use Rattle.lrs_http.proofs.SendLemmas.{sends_on}
use Rattle.lrs_http.proofs.response.write_all.Goals as goal

pub loop-done-preserved : goal.loop-done-preserved
loop-done-preserved g c = record {
  within = c.in_ok-done.ensures.more.1;
  sent = sends_on _ _ _ _ _ _ c.loop-done.invariant.sent c.in_ok-done.ensures.taken;
  faults = search rules;
  left = c.write_from.ensures.left_kept ∙ c.loop-done.invariant.left;
  stream = c.write_from.ensures.stream_kept ∙ c.loop-done.invariant.stream;
  name = c.write_from.ensures.name_kept ∙ c.loop-done.invariant.name;
}
