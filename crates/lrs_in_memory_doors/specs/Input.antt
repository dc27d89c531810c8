-- What is seen of bytes that are read in pieces.
use Rattle.std.specs.Prelude.{ℕ, List, drop}
use Rattle.lrs_in_memory_doors.specs.declared.input.Input.{Input}

-- what is left to read
abbrev pub left_of : Input → List ℕ
left_of i = drop i.offset i.bytes.items
