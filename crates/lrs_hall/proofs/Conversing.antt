-- What is true of a worker's pass and its clock after a whole conversation, and after all its talks.
use Rattle.std.proofs.Common.{ℕ, List, [], ◌∷◌, ◌++◌, Bool, Option, Some, None, subst, sym, ◌∙◌, ap, append_assoc, append-nil}
use Rattle.std.specs.Prelude.{if◌then◌else◌}
use Rattle.lrs_disk.specs.Readings.{AddsReading}
use Rattle.lrs_machine.specs.Line.{BeginsWith}
use Rattle.lrs_machine.specs.Acts.{Receipt}
use Rattle.lrs_hall.specs.Acts.{ActsOn, SeenAndClock}
use Rattle.lrs_hall.specs.Serving.{AddsReadings, clocks}
use Rattle.lrs_hall.proofs.Lines.{begins_more, begins_self}
use Rattle.lrs_hall.proofs.Talking.{Carries}
use Rattle.lrs_hall.proofs.Translating.{front_later}

-- ---- the clock

pub reads_none : (x : Option (List ℕ)) → AddsReadings x x []
reads_none None = tt
reads_none (Some a) = sym (append-nil a)

reads_one : (x y z : Option (List ℕ)) (k : ℕ) (ks : List ℕ) → AddsReading x y k → AddsReadings y z ks → AddsReadings x z (k ∷ ks)
reads_one x y None k ks first more = tt
reads_one None None (Some c) k ks first more = absurd more
reads_one None (Some b) (Some c) k ks first more = absurd first
reads_one (Some a) None (Some c) k ks first more = absurd more
reads_one (Some a) (Some b) (Some c) k ks first more = more ∙ ap (λ (l : List ℕ). l ++ ks) first ∙ append_assoc a (k ∷ []) ks

-- ---- from one act to the next

module _ (limit : ℕ) where
  abbrev pub AddsClocks : List Receipt → SeenAndClock → SeenAndClock → Type 0
  AddsClocks receipts old new = AddsReadings old.readings new.readings (clocks receipts)

  pub reads : Carries (ActsOn limit) AddsClocks
  reads = record {
    none = λ x. reads_none x.readings;
    plain = λ status receipt receipts old new none more.
        subst (λ (b : Bool). AddsReadings old.readings new.readings ((if b then receipt.clock ∷ [] else []) ++ clocks receipts)) (sym (ap (λ (r : Receipt). r.acted) none)) more;
    act = λ caller command draw reply receipt receipts old mid new on more.
        subst (λ (b : Bool). AddsReadings old.readings new.readings ((if b then receipt.clock ∷ [] else []) ++ clocks receipts)) (sym on.acts.acts.acted)
        (reads_one old.readings mid.readings new.readings receipt.clock (clocks receipts) on.read more);
  }

  -- what was seen goes on from what was seen before
  abbrev pub FrontGoesOn : List Receipt → SeenAndClock → SeenAndClock → Type 0
  FrontGoesOn receipts old new = BeginsWith old.seen.front new.seen.front

  pub goes_on : Carries (ActsOn limit) FrontGoesOn
  goes_on = record {
    none = λ x. begins_self x.seen.front;
    plain = λ status receipt receipts old new none more. more;
    act = λ caller command draw reply receipt receipts old mid new on more.
        begins_more old.seen.front mid.seen.front new.seen.front (front_later limit caller command draw reply receipt old mid on) more;
  }
