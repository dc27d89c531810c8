-- A write whose form is refused is told so once its caller is let in, whatever the history.
use Rattle.std.proofs.Common.{◌≡◌, ℕ, List, [], ◌∷◌, Option, Some, None, refl, ap, ◌∙◌}
use Rattle.std.specs.Prelude.{option_map}
use Rattle.std.specs.Option.{option_or}
use Rattle.lrs_command.specs.declared.command.Command.{Command}
use Rattle.lrs_command.specs.declared.command.Command.TheVariants as command
use Rattle.lrs_ids.specs.Choices.{first_some, when}
use Rattle.lrs_learning.specs.LrsStateState.{State, changes_nothing}
use Rattle.lrs_names.specs.declared.draw.Draw.{Draw}
use Rattle.lrs_reads.specs.LrsHistoryAnswers.{write_said}
use Rattle.lrs_reads.specs.LrsHistoryEffects.{effect}
use Rattle.lrs_reads.specs.LrsHistoryHistory.{next_entry, outcome, outcome_by, refused, refused_or, Said}
use Rattle.lrs_reads.specs.LrsHistoryOccasions.{occasion}
use Rattle.lrs_reads.specs.LrsHistoryRefusals.{barred_document, barred, conflict, missing, unmergeable}
use Rattle.lrs_reads.specs.LrsHistoryWhose.{who_is}
use Rattle.lrs_reads.specs.LrsRefusalsSubmissions.{IsMalformed}
use Rattle.lrs_record.specs.Writes.{write_area}
use Rattle.lrs_record.specs.declared.entry.Area.{Area}
use Rattle.lrs_record.specs.declared.entry.Caller.{Caller}
use Rattle.lrs_record.specs.declared.entry.Entry.{Entry}
use Rattle.lrs_replies.specs.declared.answered.Answered.{Answered}
use Rattle.lrs_replies.specs.declared.answered.Refusal.{Refusal}

-- the form is told unless the caller isn't let in
by_caller : (o : Option Refusal) (r : Refusal) (rest : List (Option Refusal)) (t : Option Answered) (e : Entry) (s : Answered)
    → outcome_by (option_or (option_map refused (first_some (o ∷ Some r ∷ rest))) t) e s ≡ Said (refused_or o (refused r))
by_caller None r rest t e s = refl
by_caller (Some first) r rest t e s = refl

pub told_malformed : (st : State) (caller : Caller) (c : Command) (clock : ℕ) (draw : Draw) (area : Area) (r : Refusal) → IsMalformed area r c
    → outcome st caller c clock draw ≡ Said (refused_or (barred area (who_is st caller)) (refused r))
told_malformed st caller (command.Write write) clock draw area r is =
    let e = next_entry st caller write clock draw in
    let rest = barred_document st (occasion st e).by write ∷ missing st write ∷ unmergeable st write ∷ conflict st (occasion st e) write ∷ [] in
    let same = when (changes_nothing (effect st e)) (write_said (effect st e)) in
    ap (λ (o : Option Refusal). outcome_by (option_or (option_map refused (first_some (barred (write_area write) (who_is st caller) ∷ o ∷ rest))) same) e (write_said (effect st e))) is.1
    ∙ by_caller (barred (write_area write) (who_is st caller)) r rest same e (write_said (effect st e))
    ∙ ap (λ (a : Area). Said (refused_or (barred a (who_is st caller)) (refused r))) is.0
told_malformed st caller (command.Read read) clock draw area r is = absurd is
told_malformed st caller (command.Refused of status rule) clock draw area r is = absurd is
