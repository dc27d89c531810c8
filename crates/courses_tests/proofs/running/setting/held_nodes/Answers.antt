use Rattle.courses_tests.proofs.Readied.{nodes_behind}
use Rattle.courses_tests.proofs.running.setting.held_nodes.Goals as goal

pub returns : goal.returns
returns c = nodes_behind c.args.course.now c.nodes.result.now c.nodes.ensures.lent c.nodes.ensures.read
