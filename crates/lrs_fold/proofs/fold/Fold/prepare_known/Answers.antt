use Rattle.std.proofs.Common.{subst}
use Rattle.lrs_command.specs.declared.who.Who.{Who}
use Rattle.lrs_fold.proofs.Written.{GivesEffect}
use Rattle.lrs_learning.specs.LrsPartsParts.{state_of}
use Rattle.lrs_fold.proofs.fold.Fold.prepare_known.Goals as goal

pub returns : goal.returns
returns c =
    let st = state_of c.args.self.now.parts in
    let e = c.args.entry in
    subst (λ (by : Who). GivesEffect st by e.moment e.draw c.effect_by-effect.result e.write) c.requires.who c.effect_by-effect.ensures
