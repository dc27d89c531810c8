-- What is seen of the system's clock and addresses.
use Rattle.std.specs.Prelude.{ℕ}
use Rattle.lrs_edge.specs.declared.lobby.TcpLobby.{TcpLobby}

abbrev pub faults_of : {R : Type 0} → TcpLobby R → ℕ
faults_of l = l.faults.count
