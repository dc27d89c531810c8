-- What is seen of a file.
use Rattle.std.specs.Prelude.{ℕ}
use Rattle.lrs_edge.specs.declared.disk.FileDisk.{FileDisk}

abbrev pub moment_of : {R Dir : Type 0} → FileDisk R Dir → ℕ
moment_of d = d.moment

abbrev pub faults_of : {R Dir : Type 0} → FileDisk R Dir → ℕ
faults_of d = d.faults.count
