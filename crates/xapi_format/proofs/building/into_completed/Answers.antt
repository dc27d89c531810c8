use Rattle.xapi_values.specs.LrsTimeMoments.{moment_text}
use Rattle.xapi_format.specs.Authorities.{authority_json}
use Rattle.xapi_format.proofs.building.into_completed.Goals as goal

pub returns-in-Ok : goal.returns-in-Ok
returns-in-Ok c =
    c.with_added.ensures c.args.id.now (moment_text c.args.stored) (authority_json c.args.authority.now) c.in-Ok.ensures
