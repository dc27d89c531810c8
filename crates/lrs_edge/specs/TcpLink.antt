-- What is seen of a connection.
use Rattle.std.specs.Prelude.{ℕ}
use Rattle.lrs_edge.specs.declared.link.TcpLink.{TcpLink}

-- the number that its door gave it
abbrev pub name_of : {R : Type 0} → TcpLink R → ℕ
name_of l = l.name

abbrev pub faults_of : {R : Type 0} → TcpLink R → ℕ
faults_of l = l.faults.count
