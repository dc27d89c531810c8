use Rattle.std.proofs.lemmas.Result.{on_ok_weaker}
use Rattle.courses_tests.proofs.Readied.{slots_of_one}
use Rattle.courses_tests.proofs.running.taking.make_slots.Goals as goal

pub returns : goal.returns
returns c = on_ok_weaker c.ready.result (slots_of_one c.ready.new.self c.args.statement.now c.from_ref.result.now c.from_ref.ensures.value) c.ready.ensures.ready
