-- Who isn't let in is told so, whatever it asks.
use Rattle.std.proofs.Common.{◌≡◌, ℕ, List, [], ◌∷◌, Option, Some, ap}
use Rattle.std.specs.Prelude.{option_map}
use Rattle.std.specs.Option.{option_or}
use Rattle.lrs_command.specs.declared.command.Command.{Command}
use Rattle.lrs_command.specs.declared.command.Command.TheVariants as command
use Rattle.lrs_history.specs.Answers.{read_said, write_said}
use Rattle.lrs_history.specs.Effects.{effect}
use Rattle.lrs_history.specs.Occasions.{occasion}
use Rattle.lrs_history.specs.History.{answer, answer_of, end_offset, next_entry, only, outcome_by, refused, refused_or, state, Said}
use Rattle.lrs_history.specs.Refusals.{bad_form, barred_document, barred, conflict, missing, refused_inside, refused_with, unmergeable}
use Rattle.lrs_command.specs.Areas.{command_area}
use Rattle.lrs_history.specs.Whose.{who_is}
use Rattle.lrs_ids.specs.Choices.{first_some, when}
use Rattle.lrs_names.specs.declared.draw.Draw.{Draw}
use Rattle.lrs_state.specs.State.{changes_nothing}
use Rattle.lrs_record.specs.declared.entry.Caller.{Caller}
use Rattle.lrs_record.specs.declared.entry.Entry.{Entry}
use Rattle.lrs_replies.specs.declared.answered.Refusal.{Refusal}

pub told_barred : (limit : ℕ) (h : List Entry) (caller : Caller) (c : Command) (clock : ℕ) (draw : Draw) (r : Refusal)
    → barred (command_area c) (who_is (state h) caller) ≡ Some r → answer limit h caller c clock draw ≡ only (refused r)
told_barred limit h caller (command.Write write) clock draw r is =
    let st = state h in
    let e = next_entry st caller write clock draw in
    ap (λ (o : Option Refusal). answer_of limit (end_offset limit h) (outcome_by
    (option_or (option_map refused (first_some (o ∷ bad_form write ∷ barred_document st (occasion st e).by write ∷ missing st write ∷ unmergeable st write ∷ conflict st (occasion st e) write ∷ []))) (when (changes_nothing (effect st e)) (write_said (effect st e))))
    e (write_said (effect st e)))) is
told_barred limit h caller (command.Read read) clock draw r is =
    let st = state h in
    ap (λ (o : Option Refusal). answer_of limit (end_offset limit h) (Said (refused_or (option_or o (refused_inside st (who_is st caller) read)) (read_said st (who_is st caller) read)))) is
told_barred limit h caller (command.Refused area status rule) clock draw r is =
    ap (λ (o : Option Refusal). answer_of limit (end_offset limit h) (Said (refused_or o (refused (refused_with status rule))))) is
