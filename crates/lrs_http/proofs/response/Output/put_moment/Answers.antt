use Rattle.std.proofs.Common.{◌++◌, List, ℕ, Option, sym, ap}
use Rattle.std.specs.Prelude.{codes}
use Rattle.lrs_http.specs.Response.{field_of}
use Rattle.lrs_http.proofs.SendLemmas.{written_as}
use Rattle.lrs_http.proofs.response.Output.put_moment.Goals as goal

pub returns-in-Some : goal.returns-in-Some
returns-in-Some g c text start w =
    written_as _ _ _ _ _ _ (ap (λ (o : Option (List ℕ)). text ++ field_of (codes "X-Experience-API-Consistent-Through") o) (sym c.in-Some.is)) (c.put_field.ensures text start w)
