-- How a command ends: its status, and the line that it prints, or the two lines of `load`.
use Rattle.std.specs.Prelude.{ℕ, List, ◌++◌, codes}
use Rattle.std.specs.Fmt.{decimal}
use Rattle.lrs_names.specs.Ids.{id_text}
use Rattle.lrs_rules.specs.Rules.{rule_text}
use Rattle.lrs_console.specs.declared.ending.Ending.{Ending}
use Rattle.lrs_console.specs.declared.ending.Ending.TheVariants as ending

abbrev pub ending_status : Ending → ℕ
ending_status ending.Founded = 0
ending_status (ending.Kept id) = 0
ending_status (ending.Served responses) = 0
ending_status (ending.Loaded statements listed) = 0
ending_status (ending.Migrated entries) = 0
ending_status ending.Usage = 1
ending_status ending.NotAStore = 2
ending_status (ending.Damaged k) = 3
ending_status ending.AlreadyStore = 4
ending_status ending.DiskFault = 5
ending_status ending.LobbyFault = 8
ending_status ending.Memory = 6
ending_status ending.OldFormat = 9
ending_status (ending.Refused rule) = 10
ending_status ending.NoId = 10
ending_status ending.TooLong = 10
ending_status (ending.Conflict id) = 10
ending_status ending.InputFault = 11
ending_status (ending.Full need limit) = 12

abbrev pub ending_text : Ending → List ℕ
ending_text ending.Founded = codes "founded"
ending_text (ending.Kept id) = id_text id
ending_text (ending.Served responses) = codes "served " ++ decimal responses
ending_text (ending.Loaded statements listed) =
    codes "loaded " ++ decimal statements ++ codes "\nlisted " ++ decimal listed
ending_text (ending.Migrated entries) = codes "migrated " ++ decimal entries
ending_text ending.Usage = codes "usage"
ending_text ending.NotAStore = codes "not a store"
ending_text (ending.Damaged k) = codes "damaged " ++ decimal k
ending_text ending.AlreadyStore = codes "already a store"
ending_text ending.DiskFault = codes "disk fault"
ending_text ending.LobbyFault = codes "lobby fault"
ending_text ending.Memory = codes "memory"
ending_text ending.OldFormat = codes "old format"
ending_text (ending.Refused rule) = codes "refused " ++ rule_text rule
ending_text ending.NoId = codes "refused no id"
ending_text ending.TooLong = codes "refused too long"
ending_text (ending.Conflict id) = codes "conflict " ++ id_text id
ending_text ending.InputFault = codes "input fault"
ending_text (ending.Full need limit) = codes "full " ++ decimal need ++ codes " " ++ decimal limit

-- the line that is printed
abbrev pub ending_line : Ending → List ℕ
ending_line end = ending_text end ++ codes "\n"
