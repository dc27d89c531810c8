-- What holds of a command that comes from outside.
use Rattle.lrs_command.specs.declared.command.Command.{Command}
use Rattle.lrs_command.specs.declared.command.Command.TheVariants.{Write}
use Rattle.lrs_record.specs.Entries.{IsLawfulWrite}

-- The trees of a write are such as reading gives.
abbrev pub HasReadTrees : Command → Type 0
HasReadTrees (Write write) = IsLawfulWrite write
HasReadTrees other = Unit {0}
