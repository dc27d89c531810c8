use Rattle.std.proofs.Common.{refl}
use Rattle.lrs_app.proofs.Running.{does_init, does_intake, does_load, does_migrate, does_serve, meant_init, meant_migrate, meant_workers}
use Rattle.lrs_app.proofs.program.run_command.Goals as goal

pub returns-in-Init : goal.returns-in-Init
returns-in-Init g c = λ line means.
    does_init g.S.Disk.Disk line c.args.command.now c.in-Init.file c.in-Init.admin c.in-Init.base c.in-Init.limit c.args.seed _ _ c.run_init.result
    c.in-Init.is means (record { left = refl; faults = refl }) c.run_init.ensures

pub returns-in-Intake : goal.returns-in-Intake
returns-in-Intake g c = λ line means.
    does_intake g.S.Disk.Disk line c.args.command.now c.in-Intake.file c.args.seed _ _ c.run_intake.result
    c.in-Intake.is means c.run_intake.ensures

pub returns-in-Serve : goal.returns-in-Serve
returns-in-Serve g c = λ line means.
    does_serve g.S.Disk.Disk line c.args.command.now c.in-Serve.file c.in-Serve.address c.in-Serve.workers c.in-Serve.connections c.args.seed _ _ c.run_serve.result
    c.in-Serve.is means (record { left = refl; faults = refl }) c.run_serve.ensures

pub returns-in-Load : goal.returns-in-Load
returns-in-Load g c = λ line means.
    does_load g.S.Disk.Disk line c.args.command.now c.in-Load.file c.in-Load.number c.in-Load.count c.args.seed _ _ c.run_load.result
    c.in-Load.is means (record { left = refl; faults = refl }) c.run_load.ensures

pub returns-in-Migrate : goal.returns-in-Migrate
returns-in-Migrate g c = λ line means.
    does_migrate g.S.Disk.Disk line c.args.command.now c.in-Migrate.old c.in-Migrate.new c.in-Migrate.limit c.args.seed _ _ c.run_migrate.result
    c.in-Migrate.is means (record { left = refl; faults = refl }) c.run_migrate.ensures

pub run_init-requires-clause-limit : goal.run_init-requires-clause-limit
run_init-requires-clause-limit g c κs within = (meant_init c.args.command.now c.in-Init.file c.in-Init.admin c.in-Init.base c.in-Init.limit c.in-Init.is c.requires).0

pub run_init-requires-clause-admin : goal.run_init-requires-clause-admin
run_init-requires-clause-admin g c κs within = (meant_init c.args.command.now c.in-Init.file c.in-Init.admin c.in-Init.base c.in-Init.limit c.in-Init.is c.requires).1

pub run_init-requires-clause-base : goal.run_init-requires-clause-base
run_init-requires-clause-base g c κs within = (meant_init c.args.command.now c.in-Init.file c.in-Init.admin c.in-Init.base c.in-Init.limit c.in-Init.is c.requires).2

-- The disk, the doors and their links may cross threads, and the number of workers is in its range.
pub run_serve-requires : goal.run_serve-requires
run_serve-requires g c =
    let workers = meant_workers c.args.command.now c.in-Serve.file c.in-Serve.address c.in-Serve.workers c.in-Serve.connections c.in-Serve.is c.requires in
    (c.type_bounds.send-S-Disk, (c.type_bounds.send-B-Door, (c.type_bounds.send-B-Door-Link, (c.type_bounds.sync-R, workers))))

pub run_migrate-requires-clause-differ : goal.run_migrate-requires-clause-differ
run_migrate-requires-clause-differ g c κs within = (meant_migrate c.args.command.now c.in-Migrate.old c.in-Migrate.new c.in-Migrate.limit c.in-Migrate.is c.requires).0

pub run_migrate-requires-clause-limit : goal.run_migrate-requires-clause-limit
run_migrate-requires-clause-limit g c κs within = (meant_migrate c.args.command.now c.in-Migrate.old c.in-Migrate.new c.in-Migrate.limit c.in-Migrate.is c.requires).1
