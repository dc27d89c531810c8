use Rattle.std.proofs.Common.{◌++◌, ap}
use Rattle.lrs_parts.specs.Parts.{SeenParts}
use Rattle.lrs_parts.proofs.parts.Parts.behind_held.Goals as goal

pub returns-clause-held : goal.returns-clause-held
returns-clause-held c = ap (λ (v : SeenParts). v.statements.held) c.self.view_is

pub returns-clause-all : goal.returns-clause-all
returns-clause-all c = ap (λ (v : SeenParts). v.statements.held ++ c.args.new.now) c.self.view_is
