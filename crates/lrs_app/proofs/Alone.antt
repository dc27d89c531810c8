-- One worker with nobody beside it: each of its acts was on just what stood before it.
use Rattle.std.proofs.Common.{◌≡◌, ◌<◌, ◌≤◌, ◌+◌, ◌++◌, ◌∷◌, [], ℕ, List, length, Bool, true, false, refl, ap, ◌∙◌, subst, ⊎_elim, arith, ne_eqb}
use Rattle.std.specs.Prelude.{if◌then◌else◌}
use Rattle.std.proofs.Math.Nat.{eq-or-lt_of_le}
use prog.Atomic.{either}
use Rattle.lrs_disk.specs.Door.{DoorState}
use Rattle.lrs_command.specs.declared.command.Command.{Command}
use Rattle.lrs_names.specs.declared.draw.Draw.{Draw}
use Rattle.lrs_record.specs.declared.entry.Caller.{Caller}
use Rattle.lrs_replies.specs.declared.reply.Reply.{Reply}
use Rattle.lrs_turn.specs.Lists.{times, total}
use Rattle.lrs_turn.proofs.Steps.{times_append}
use Rattle.lrs_hall.specs.LrsMachineActs.{Receipt, changed}
use Rattle.lrs_hall.specs.LrsMachineLine.{Record}
use Rattle.lrs_hall.specs.Acts.{ActsIn, ActsNext, Reach}
use Rattle.lrs_hall.specs.Draws.{start_of}
use Rattle.lrs_hall.specs.Serving.{AreOnLinks, Tide, worker_at}
use Rattle.lrs_hall.specs.Talks.{Talk}
use Rattle.lrs_hall.specs.Workers.{AreStints, IsStint, ServesDoors, Stint}
use Rattle.lrs_hall.specs.declared.serving.ServeEnd.{ServeEnd}
use Rattle.lrs_hall.proofs.Lines.{begins_length}
use Rattle.lrs_hall.proofs.Once.{alone}
use Rattle.lrs_hall.proofs.Talking.{Carries, over_all}
use Rattle.lrs_app.specs.Service.{IsAlone}

-- ---- how far a worker comes

module _ (limit : ℕ) (line : List Record) where
  -- no number of a record that it hasn't seen is its own
  abbrev NoneAhead : Reach → Type 0
  NoneAhead r = (n : ℕ) → r.records ≤ n → times n r.own ≡ 0

  -- it stays within the line, doesn't go back, and owns nothing that it hasn't seen
  abbrev Comes : Reach → Reach → Type 0
  Comes old new = (old.records ≤ length line → new.records ≤ length line) × (old.records ≤ new.records) × (NoneAhead old → NoneAhead new)

  step_comes : (caller : Caller) (command : Command) (draw : Draw) (reply : Reply) (receipt : Receipt) (old new : Reach) → ActsIn limit line caller command draw reply receipt old new → Comes old new
  step_comes caller command draw reply receipt old new on =
      by_change (changed receipt) (ap (λ (r : Reach). r.records) on.reach) (ap (λ (r : Reach). r.own) on.reach)
    where
      by_change : (b : Bool) → new.records ≡ (if b then on.at + 1 else on.at) → new.own ≡ (if b then old.own ++ on.at ∷ [] else old.own) → Comes old new
      by_change true records own =
          let later = on.later in (
            (λ from. on.within),
            omega (arith, later, records),
            λ none n high.
                let before : times n old.own ≡ 0 = none n (omega (arith, later, records, high)) in
                let here : times n (on.at ∷ []) ≡ 0 = ap (λ (b : Bool). either b 1 0 + 0) (ne_eqb n on.at (λ same. omega (arith, same, records, high))) in
                let sum : times n new.own ≡ times n old.own + times n (on.at ∷ []) = ap (times n) own ∙ times_append n old.own (on.at ∷ []) in
                omega (arith, before, here, sum),
          )
      by_change false records own =
          let later = on.later in (
            (λ from. on.within),
            omega (arith, later, records),
            λ none n high. ap (times n) own ∙ none n (omega (arith, later, records, high)),
          )

  comes : Carries (ActsIn limit line) (λ (receipts : List Receipt). Comes)
  comes = record {
    none = λ x. ((λ from. from), omega arith, λ none. none);
    plain = λ status receipt receipts old new none more. more;
    act = λ caller command draw reply receipt receipts old mid new on more.
        let step = step_comes caller command draw reply receipt old mid on in
        let here = step.1 in
        let later = more.1 in
        ((λ from. more.0 (step.0 from)), omega (arith, here, later), λ none. more.2 (step.2 none));
  }

-- ---- one worker

-- where there was one worker, no act but its own came between
pub alone_serves : (limit : ℕ) (opened line : List Record) (start end : Tide) (connections : ℕ) (seed : List ℕ) (openings closings : List DoorState) (all : List (List Talk)) (why : ServeEnd)
    → (serves : ServesDoors limit opened line start end connections seed openings closings all why) → IsAlone limit line (length opened) start end connections seed serves.stints serves.each
alone_serves limit opened line start end connections seed openings closings all why serves = by_stints serves.stints serves.each serves.owned
  where
    by_stints : (stints : List Stint) (each : AreStints limit line (length opened) start end connections seed 1 stints)
        → ((n : ℕ) → length opened ≤ n → n < length line → total (λ (s : Stint). times n s.reach.own) stints ≡ 1) → IsAlone limit line (length opened) start end connections seed stints each
    by_stints [] each owned = tt
    by_stints (s ∷ []) each owned =
        let one : IsStint limit line (length opened) start end connections (start_of seed 1) s = each.0 in
        let came = over_all (ActsIn limit line) (λ (receipts : List Receipt). Comes limit line) (comes limit line) s.talks one.links (worker_at (start_of seed 1) (length opened) [] start)
        (worker_at one.last s.reach.records s.reach.own s.reach.tide) one.on_links in
        let within : s.reach.records ≤ length line = came.0 (begins_length opened line serves.begins) in
        let later : length opened ≤ s.reach.records = came.1 in
        let mine : (n : ℕ) → length opened ≤ n → n < length line → times n s.reach.own + 0 ≡ 1 = owned in
        let whole : s.reach.records ≡ length line = ⊎_elim (λ same. same)
        (λ short.
        let own = mine s.reach.records later short in
        let ahead = came.2 (λ n from. refl) s.reach.records (omega arith) in
        absurd (omega (arith, own, ahead))) (eq-or-lt_of_le within) in
        subst (λ (n : ℕ). AreOnLinks (ActsNext limit line) s.talks one.links (worker_at (start_of seed 1) (length opened) [] start) (worker_at one.last n s.reach.own s.reach.tide)) whole
        (alone limit line s.talks one.links (worker_at (start_of seed 1) (length opened) [] start) (worker_at one.last s.reach.records s.reach.own s.reach.tide) one.on_links
        (λ n from low. let own = mine n from (omega (arith, low, within)) in omega (arith, own)) (λ n from. refl))
    by_stints (s ∷ t ∷ stints) each owned = tt
