use Rattle.std.proofs.Common.{[], ◌∷◌, ◌++◌, sym, ap, ◌∙◌}
use Rattle.std.proofs.lemmas.Result.{MatchResult-weaker}
use Rattle.xapi_received.specs.Excerpts.{listed}
use Rattle.xapi_received.specs.declared.excerpts.Excerpts.{Excerpts}
use Rattle.xapi_received.proofs.excerpts.Excerpts.pushed.Goals as goal

pub returns-in-Two : goal.returns-in-Two
returns-in-Two c =
    MatchResult-weaker c.three.result c.three.ensures (λ all is. is ∙ ap (λ (ps : Excerpts). listed ps ++ (c.args.excerpt ∷ [])) (sym c.in-Two.is)) (λ e any. any)

pub returns-in-More : goal.returns-in-More
returns-in-More c =
    MatchResult-weaker c.longer.result c.longer.ensures (λ all is. is ∙ ap (λ (ps : Excerpts). listed ps ++ (c.args.excerpt ∷ [])) (sym c.in-More.is)) (λ e any. any)
