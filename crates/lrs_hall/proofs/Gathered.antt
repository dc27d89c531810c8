-- What is taken from workers, one after the other.
use Rattle.std.proofs.Common.{arith, ◌≡◌, ◌+◌, List, [], ◌∷◌, ◌++◌, length, refl, sym, ap, ◌∙◌, append-nil, length-append}
use Rattle.lrs_machine.specs.Line.{Record}
use Rattle.lrs_turn.specs.Passes.{Pass}
use Rattle.lrs_hall.specs.Steps.{backwards, door_held, end_held, pass_held, talks_held}
use Rattle.lrs_hall.specs.Talks.{Talk}
use Rattle.lrs_hall.specs.Workers.{end_of, end_with}
use Rattle.lrs_hall.specs.declared.serving.ServeEnd.{ServeEnd}
use Rattle.lrs_hall.specs.declared.serving.ServeEnd.TheVariants as serve
use Rattle.lrs_hall.specs.declared.workers.DoorWorker.{DoorWorker}
use Rattle.lrs_hall.proofs.AtDoors.{all_done, backwards_length, comes_over, end_more, moved_left}

-- These workers are left of all, and what the others had was taken.
pub record GatheredSoFar {O : Type 0} (all left : List (DoorWorker O)) (passes : List (Pass Record)) (doors : List O) (talks : List (List Talk)) (end : ServeEnd) : Type 0 where
  pub done : List (DoorWorker O)
  pub of_all : all ≡ left ++ done
  pub passes_are : passes ≡ backwards pass_held done
  pub doors_are : doors ≡ backwards door_held done
  pub talks_are : talks ≡ backwards talks_held done
  pub ended : end ≡ end_of (backwards end_held done)

module _ {O : Type 0} (all : List (DoorWorker O)) where
  pub gathered_none : (left : List (DoorWorker O)) (passes : List (Pass Record)) (doors : List O) (talks : List (List Talk)) → left ≡ all → passes ≡ [] → doors ≡ [] → talks ≡ []
      → GatheredSoFar all left passes doors talks serve.Done
  gathered_none left passes doors talks is no_pass no_door no_talk =
      record { done = []; of_all = sym (append-nil left ∙ is); passes_are = no_pass; doors_are = no_door; talks_are = no_talk; ended = refl }

  pub gathered_more : (before left : List (DoorWorker O)) (w : DoorWorker O) (passes more_passes : List (Pass Record)) (doors more_doors : List O) (talks more_talks : List (List Talk)) (end last : ServeEnd)
      → GatheredSoFar all before passes doors talks end → before ≡ left ++ w ∷ [] → more_passes ≡ passes ++ w.pass ∷ [] → more_doors ≡ doors ++ w.door ∷ [] → more_talks ≡ talks ++ w.talks ∷ []
      → last ≡ end_with end w.end → GatheredSoFar all left more_passes more_doors more_talks last
  gathered_more before left w passes more_passes doors more_doors talks more_talks end last so popped pass door talk is = record {
    done = w ∷ so.done;
    of_all = moved_left left before so.done all w so.of_all popped;
    passes_are = comes_over pass_held so.done w w.pass passes more_passes so.passes_are pass refl;
    doors_are = comes_over door_held so.done w w.door doors more_doors so.doors_are door refl;
    talks_are = comes_over talks_held so.done w w.talks talks more_talks so.talks_are talk refl;
    ended = is ∙ ap (λ (e : ServeEnd). end_with e w.end) so.ended ∙ sym (end_more (backwards end_held so.done) w.end);
  }

  -- so many were taken
  pub gathered_count : (left : List (DoorWorker O)) (passes : List (Pass Record)) (doors : List O) (talks : List (List Talk)) (end : ServeEnd) → GatheredSoFar all left passes doors talks end
      → (length left + length passes ≡ length all) × (length left + length doors ≡ length all) × (length left + length talks ≡ length all)
  gathered_count left passes doors talks end so =
      let len : length all ≡ length left + length so.done = ap length so.of_all ∙ length-append left so.done in
      let p : length passes ≡ length so.done = ap length so.passes_are ∙ backwards_length pass_held so.done in
      let d : length doors ≡ length so.done = ap length so.doors_are ∙ backwards_length door_held so.done in
      let t : length talks ≡ length so.done = ap length so.talks_are ∙ backwards_length talks_held so.done in
      (omega (arith, len, p), omega (arith, len, d), omega (arith, len, t))

  -- none is left
  pub gathered_all : (left : List (DoorWorker O)) (passes : List (Pass Record)) (doors : List O) (talks : List (List Talk)) (end : ServeEnd) → GatheredSoFar all left passes doors talks end → length left ≡ 0
      → (passes ≡ backwards pass_held all) × (doors ≡ backwards door_held all) × (talks ≡ backwards talks_held all) × (end ≡ end_of (backwards end_held all))
  gathered_all left passes doors talks end so none =
      let done : so.done ≡ all = sym (all_done left so.done all so.of_all none) in (
        so.passes_are ∙ ap (backwards pass_held) done,
        so.doors_are ∙ ap (backwards door_held) done,
        so.talks_are ∙ ap (backwards talks_held) done,
        so.ended ∙ ap (λ (ws : List (DoorWorker O)). end_of (backwards end_held ws)) done,
      )
