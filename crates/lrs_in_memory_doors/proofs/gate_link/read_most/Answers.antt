use Rattle.std.proofs.Common.{◌≤◌, ◌++◌, ◌∙◌, ℕ, List, ap, length, sym, rules}
use Rattle.std.proofs.lemmas.List.{take-append-le}
use Rattle.lrs_in_memory_doors.specs.MemLink.{left_of}
use Rattle.lrs_in_memory_doors.proofs.gate_link.read_most.Goals as goal

-- what was read into the front of a piece stands before the rest of the piece
pub returns-clause-given : goal.returns-clause-given
returns-clause-given c =
    let few : c.in_ok-number.number ≤ length c.read.new.into = search rules in
    c.in_ok-number.ensures.given ∙ ap (λ (l : List ℕ). l ++ left_of c.read.new.self) (sym (take-append-le c.in_ok-number.number c.read.new.into _ few))
