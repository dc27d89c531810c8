use Rattle.std.proofs.Common.{inl}
use Rattle.lrs_app.proofs.Running.{found_one}
use Rattle.lrs_app.proofs.program.run_found.Goals as goal

-- The disk, the doors and their links may cross threads, and the command is in its ranges.
pub run_command-requires : goal.run_command-requires
run_command-requires g c =
    let line = found_one _ _ c.args.found.now c.in-Some.command c.in-Some.is c.requires in
    (c.type_bounds.send-S-Disk, (c.type_bounds.send-B-Door, (c.type_bounds.send-B-Door-Link, (c.type_bounds.sync-R, (line.0, line.1.1, line.2)))))

pub returns-in-Some : goal.returns-in-Some
returns-in-Some g c =
    let line = found_one _ _ c.args.found.now c.in-Some.command c.in-Some.is c.requires in
    inl (line.0, line.1, c.run_command.ensures line.0 line.2)
