use Rattle.std.proofs.Common.{arith, false}
use Rattle.std.proofs.lemmas.List.{drop_more}
use Rattle.lrs_in_memory.proofs.CallLists.{total-drop, replay_more}
use Rattle.lrs_in_memory.specs.declared.call.Act.TheVariants as acts
use Rattle.lrs_in_memory.proofs.bytes.replay.Goals as goal

pub split_at-requires : goal.split_at-requires
split_at-requires c = omega (arith, total-drop c.args.calls.now c.loop-call.call-index (record { act = acts.Look; size = 0; failed = false }) c.loop-call-test.true, c.loop-call.invariant.fits)

pub loop-call-preserved : goal.loop-call-preserved
loop-call-preserved c = record {
  image = replay_more c.args.pending c.args.calls.now c.loop-call.call-index _ c.loop-call.rest.now c.loop-call.read.items c.loop-call.left.items c.split_at.result.0.now c.split_at.result.1.now c.deref.result.now
      c.read_on.new.read.items c.leave.new.left.items _ (drop_more c.args.calls.now c.loop-call.call-index (record { act = acts.Look; size = 0; failed = false }) c.loop-call-test.true)
      c.split_at.ensures.front c.split_at.ensures.back c.deref.ensures.value c.in_ok-leave.ensures c.in_ok-read_on.ensures c.loop-call.invariant.image;
  fits = omega (arith, total-drop c.args.calls.now c.loop-call.call-index (record { act = acts.Look; size = 0; failed = false }) c.loop-call-test.true, c.loop-call.invariant.fits, c.split_at.ensures.back_len, c.split_at.ensures.front_len);
}
