use Rattle.std.proofs.Common.{ℕ, List, Some, None, subst}
use Rattle.lrs_bodies.specs.Bodies.{BodyBreaks, IsInBody}
use Rattle.lrs_routes.specs.Forms.{FirstBroken, parameters_of}
use Rattle.lrs_routes.specs.Operations.{form_of}
use Rattle.lrs_routes.specs.Looks.{IsGiven, IsInParameters, IsMeantThere, OnlyParameters}
use Rattle.lrs_routes.proofs.PathParts.{given_meant}
use Rattle.lrs_routes.proofs.Stages.{finds_handed, finds_refused, parameters_pass, parameters_stop}
use Rattle.lrs_routes.proofs.forms.meaning.Goals as goal

pub returns-in_err-query : goal.returns-in_err-query
returns-in_err-query c =
    let request = c.args.request.now in
    let form = form_of c.args.operation in
    let pairs = parameters_of request.query in
    finds_handed (OnlyParameters form.parameters pairs) (FirstBroken c.args.operation request) (IsInParameters form.parameters pairs) (IsMeantThere c.args.operation request) c.in_err-query.field-0.0 c.from_residual.result c.from_residual.ensures.1
    (λ rule h. parameters_stop form.parameters pairs (BodyBreaks form.body request (Some rule)) rule h) c.in_err-query.ensures

pub returns-in_ok-meant_there-in-Ok : goal.returns-in_ok-meant_there-in-Ok
returns-in_ok-meant_there-in-Ok c =
    let request = c.args.request.now in
    let form = form_of c.args.operation in
    let given = subst (λ (path : List ℕ). IsGiven c.args.operation path c.in_ok-query.query c.in-Ok.body c.in_ok-meant_there-in-Ok.field-0) c.as_str.ensures.lent c.in_ok-meant_there-in-Ok.ensures in (
      parameters_pass form.parameters (parameters_of request.query) (BodyBreaks form.body request None) None c.in_ok-query.ensures.0 c.in-Ok.ensures.0,
      given_meant c.args.operation request c.in_ok-query.query c.in-Ok.body c.in_ok-meant_there-in-Ok.field-0 c.in_ok-query.ensures.1.is c.in-Ok.ensures.1.is given,
    )

pub returns-in-Err : goal.returns-in-Err
returns-in-Err c =
    let request = c.args.request.now in
    let form = form_of c.args.operation in
    let pairs = parameters_of request.query in
    finds_refused (BodyBreaks form.body request) (FirstBroken c.args.operation request) (IsInBody form.body request) (IsMeantThere c.args.operation request) c.in-Err.refused
    (λ rule h. parameters_pass form.parameters pairs (BodyBreaks form.body request (Some rule)) (Some rule) c.in_ok-query.ensures.0 h) c.in-Err.ensures
