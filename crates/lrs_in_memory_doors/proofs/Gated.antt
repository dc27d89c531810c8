-- A link that wraps another one brings the same.
use Rattle.std.proofs.Common.{◌≡◌, ◌∙◌, ℕ, List, [], ◌∷◌, Option, Some, None}
use Rattle.lrs_disk.specs.Door.{Brings}
use Rattle.lrs_disk.specs.declared.door.Next.TheVariants as answers

pub brings_same : {L G : Type 0} (stream : L → Option (List ℕ)) (other : G → Option (List ℕ)) (link : L) (gate : G) (old new : Option (List (List ℕ)))
    → other gate ≡ stream link → Brings stream (answers.Joined link) old new → Brings other (answers.Joined gate) old new
brings_same stream other link gate None new same is = is
brings_same stream other link gate (Some []) new same is = is
brings_same stream other link gate (Some (first ∷ rest)) new same is = (same ∙ is.0, is.1)
