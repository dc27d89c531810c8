use Rattle.std.proofs.Common.{◌∙◌, ◌≤◌, ap, take, length, rules}
use Rattle.lrs_http.specs.Links.{stream_left}
use Rattle.lrs_http.proofs.NextLemmas.{came_behind, held_and_came}
use Rattle.lrs_http.proofs.reading.read_behind.Goals as goal

pub returns-clause-given : goal.returns-clause-given
returns-clause-given g c =
    let few : c.in_ok-number.number ≤ length c.read.new.into = search rules in
    ap (λ l. stream_left l (g.L.Link.left c.read.new.self)) (held_and_came c.args.bytes.now c.read.new.into _ c.args.held c.in_ok-number.number c.requires few)
    ∙ came_behind (take c.args.held c.args.bytes.now) (take c.in_ok-number.number c.read.new.into) (g.L.Link.left c.args.link.now) (g.L.Link.left c.read.new.self) c.in_ok-number.ensures.given
