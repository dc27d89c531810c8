use Rattle.lrs_routes.proofs.routes.fill.Goals as goal

pub fill_others-requires : goal.fill_others-requires
fill_others-requires c = c.in_ok-fill_desk.ensures

pub returns : goal.returns
returns c = c.fill_others.ensures
