-- Where a request goes, by what it asks of its caller.
use Rattle.lrs_command.specs.declared.command.Command.{Command}
use Rattle.lrs_command.specs.declared.command.Command.TheVariants as command
use Rattle.lrs_command.specs.declared.command.Read.{Read}
use Rattle.lrs_command.specs.declared.command.Read.TheVariants.{Statements, More, Documents, Profile, About}
use Rattle.lrs_command.specs.declared.command.Read.TheVariants.{Registration}
use Rattle.lrs_record.specs.Writes.{write_area}
use Rattle.lrs_record.specs.declared.entry.Area.{Area}
use Rattle.lrs_record.specs.declared.entry.Area.TheVariants.{Free, Store, Desk}

abbrev pub read_area : Read → Area
read_area (Statements wanted) = Store
read_area (More link) = Store
read_area (Documents wanted) = Store
read_area Profile = Store
read_area About = Free
read_area (Registration id) = Desk

abbrev pub command_area : Command → Area
command_area (command.Write write) = write_area write
command_area (command.Read read) = read_area read
command_area (command.Refused area status rule) = area
