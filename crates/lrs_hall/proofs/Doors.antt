-- One link of a door, and how serving goes on.
use Rattle.std.proofs.Common.{arith, ◌≡◌, ◌≢◌, ◌<◌, ◌≤◌, ℕ, List, [], ◌∷◌, ◌++◌, length, true, false, Option, Some, None, IfSome, option_map, subst, sym, ◌∙◌, ap, refl, inl, inr, append_assoc, append-nil}
use Rattle.std.specs.Prelude.{nat_lt}
use Rattle.std.proofs.lemmas.Bool.{le-ltb, lt-ltb}
use Rattle.lrs_disk.specs.Door.{DoorState, Returned, link_returned, Brings}
use Rattle.lrs_disk.specs.declared.door.Next.TheVariants as answers
use Rattle.lrs_disk.specs.Faults.{Rises}
use Rattle.lrs_hall.specs.declared.talk.Finish.{Finish}
use Rattle.lrs_hall.specs.declared.talk.Finish.TheVariants as finish
use Rattle.lrs_hall.specs.Acts.{ActsOn, SeenAndClock, limit_in}
use Rattle.lrs_hall.specs.Conversation.{ActOn, Worker}
use Rattle.lrs_hall.specs.Serving.{AreOnLinks, Brought, EndsServing, IsWholeTalk, IsOnLink, is_fault, BringsOne}
use Rattle.lrs_hall.specs.declared.serving.ServeEnd.{ServeEnd}
use Rattle.lrs_hall.specs.declared.serving.ServeEnd.TheVariants as serve
use Rattle.lrs_hall.specs.Steps.{HasFinishCause, OneComesThrough, Served}
use Rattle.lrs_hall.specs.Talks.{Talk}

taken_all : (before now : Option (List ℕ)) (out : List ℕ) → IfSome before (λ bytes. bytes ≡ []) → now ≡ option_map (λ bytes. bytes ++ out) before → IfSome now (λ bytes. bytes ≡ out)
taken_all None now out none is = subst (λ o. IfSome o (λ bytes. bytes ≡ out)) (sym is) tt
taken_all (Some b) now out none is = subst (λ o. IfSome o (λ bytes. bytes ≡ out)) (sym is) (ap (λ l. l ++ out) none)

unrisen : (before now : ℕ) → before ≡ 0 → now ≡ before → nat_lt 0 now ≡ false
unrisen before now zero same = le-ltb 0 now (omega arith)

risen : (before now : ℕ) → before ≡ 0 → Rises before now → nat_lt 0 now ≡ true
risen before now zero (inl more) = lt-ltb 0 now (omega arith)
risen before now zero (inr end) = lt-ltb 0 now (omega arith)

rose_by : (before now : ℕ) (f : Finish) → before ≡ 0 → HasFinishCause before now f → nat_lt 0 now ≡ is_fault f
rose_by before now finish.LinkFault zero cause = risen before now zero cause.0
rose_by before now finish.Ended zero cause = unrisen before now zero cause
rose_by before now finish.Closed zero cause = unrisen before now zero cause
rose_by before now finish.Cut zero cause = unrisen before now zero cause
rose_by before now finish.Memory zero cause = unrisen before now zero cause

-- a talk over a link that came new and was given back
pub is_over : {X : Type 0} (acts : ActOn X) (talk : Talk) (old new : Worker X) (left stream brought before now : Option (List ℕ)) (out : List ℕ) (fresh faults : ℕ)
    → left ≡ brought → stream ≡ brought → IfSome before (λ bytes. bytes ≡ []) → now ≡ option_map (λ bytes. bytes ++ out) before → fresh ≡ 0 → HasFinishCause fresh faults talk.finish
    → IsWholeTalk acts left talk out old new → IsOnLink acts talk (link_returned stream now faults) old new
is_over acts talk old new left stream brought before now out fresh faults unread kept unwritten sent zero cause talks = record {
  out = out;
  taken = taken_all before now out unwritten sent;
  talks = subst (λ s. IsWholeTalk acts s talk out old new) (unread ∙ sym kept) talks;
  rose = rose_by fresh faults talk.finish zero cause;
}

-- the limit stays
pub on_link_same : (talk : Talk) (link : Returned) (old new : Worker SeenAndClock) (marks later : List ℕ) → later ≡ marks → IsOnLink (ActsOn (limit_in later)) talk link old new
    → IsOnLink (ActsOn (limit_in marks)) talk link old new
on_link_same talk link old new marks later same on_link = subst (λ (ms : List ℕ). IsOnLink (ActsOn (limit_in ms)) talk link old new) same on_link

pub brings_one : {L : Type 0} (stream : L → Option (List ℕ)) (link : L) (own : Option (List ℕ)) (before now : Option (List (List ℕ)))
    → own ≡ stream link → Brings stream (answers.Joined link) before now → BringsOne own before now
brings_one stream link own None now is brings = brings
brings_one stream link own (Some []) now is brings = brings
brings_one stream link own (Some (first ∷ rest)) now is brings = (is ∙ brings.0, brings.1)

-- ---- one talk after the other

-- Talks so far, so that what follows makes all of them.
pub record ServedSoFar {X : Type 0} (acts : ActOn X) (start now : Worker X) (before behind : DoorState) (talks : List Talk) : Type 0 where
  pub links : List Returned
  pub on_links : (more : List Talk) (others : List Returned) (end : Worker X) → AreOnLinks acts more others now end → AreOnLinks acts (talks ++ more) (links ++ others) start end
  pub out : behind.out ≡ None
  pub returned : behind.returned ≡ option_map (λ (so_far : List Returned). so_far ++ links) before.returned
  pub streams : (others : List Returned) (last : Option (List (List ℕ))) → Brought behind.streams others last → Brought before.streams (links ++ others) last
  pub faults : behind.faults ≡ before.faults

map_none : (before : Option (List Returned)) → before ≡ option_map (λ (so_far : List Returned). so_far ++ []) before
map_none None = refl
map_none (Some links) = ap Some (sym (append-nil links))

map_two : (before : Option (List Returned)) (a b : List Returned) → option_map (λ (so_far : List Returned). so_far ++ b) (option_map (λ (so_far : List Returned). so_far ++ a) before) ≡ option_map (λ (so_far : List Returned). so_far ++ (a ++ b)) before
map_two None a b = refl
map_two (Some links) a b = ap Some (append_assoc links a b)

pub served_none : {X : Type 0} (acts : ActOn X) (start : Worker X) (before : DoorState) (talks : List Talk) → talks ≡ [] → before.out ≡ None → ServedSoFar acts start start before before talks
served_none acts start before talks none out = record {
  links = [];
  on_links = λ more others end is. subst (λ ts. AreOnLinks acts (ts ++ more) others start end) (sym none) is;
  out = out;
  returned = map_none before.returned;
  streams = λ others last is. is;
  faults = refl;
}

pub served_one : {X : Type 0} (acts : ActOn X) (start now new : Worker X) (before behind later : DoorState) (talks : List Talk) (talk : Talk) (link : Returned) (all : List Talk)
    → ServedSoFar acts start now before behind talks → IsOnLink acts talk link now new → OneComesThrough behind later link → all ≡ talks ++ talk ∷ [] → ServedSoFar acts start new before later all
served_one acts start now new before behind later talks talk link all so on_links through is = record {
  links = so.links ++ link ∷ [];
  on_links = λ more others end more_over.
      subst (λ ts. AreOnLinks acts (ts ++ more) ((so.links ++ link ∷ []) ++ others) start end) (sym is)
      (subst (λ ts. AreOnLinks acts ts ((so.links ++ link ∷ []) ++ others) start end) (sym (append_assoc talks (talk ∷ []) more))
      (subst (λ ls. AreOnLinks acts (talks ++ talk ∷ more) ls start end) (sym (append_assoc so.links (link ∷ []) others))
      (so.on_links (talk ∷ more) (link ∷ others) end (new, on_links, more_over))));
  out = through.out;
  returned = through.returned ∙ ap (option_map (λ (so_far : List Returned). so_far ++ link ∷ [])) so.returned ∙ map_two before.returned so.links (link ∷ []);
  streams = λ others last brought.
      subst (λ ls. Brought before.streams ls last) (sym (append_assoc so.links (link ∷ []) others)) (so.streams (link ∷ others) last (later.streams, through.streams, brought));
  faults = through.faults ∙ so.faults;
}

-- serving ends after the talks so far, where the door and the worker are as they were
pub served_so : {X : Type 0} (acts : ActOn X) (connections : ℕ) (start now new : Worker X) (before behind later : DoorState) (talks all : List Talk) (end : ServeEnd)
    → ServedSoFar acts start now before behind talks → new ≡ now → later.out ≡ None → later.returned ≡ behind.returned → later.streams ≡ behind.streams
    → all ≡ talks → EndsServing connections (length talks) before later end → Served acts connections start new before later all end
served_so acts connections start now new before behind later talks all end so same out returned streams is why =
    let on_links : AreOnLinks acts (talks ++ []) (so.links ++ []) start now = so.on_links [] [] now refl in
    record {
      links = so.links;
      on_links = subst (λ ts. AreOnLinks acts ts so.links start new) (append-nil talks ∙ sym is)
          (subst (λ ls. AreOnLinks acts (talks ++ []) ls start new) (append-nil so.links) (subst (λ w. AreOnLinks acts (talks ++ []) (so.links ++ []) start w) (sym same) on_links));
      through = record {
        out = out;
        returned = returned ∙ so.returned;
        streams = subst (λ ls. Brought before.streams ls later.streams) (append-nil so.links) (so.streams [] later.streams streams);
      };
      why = subst (λ ts. EndsServing connections (length ts) before later end) (sym is) why;
    }

-- why one turn of a door was the last is why serving ends
pub ends_so : (connections talks : ℕ) (before behind later : DoorState) (end : ServeEnd) → talks < connections → behind.faults ≡ before.faults
    → EndsServing 1 0 behind later end → end ≢ serve.Memory → EndsServing connections talks before later end
ends_so connections talks before behind later serve.Done few same why not = (why.0 ∙ same, elim why.1 [ inl none ↦ absurd (omega arith) | inr shut ↦ inr (few, shut.1, shut.2) ])
ends_so connections talks before behind later serve.DoorFault few same why not =
    (few, subst (λ n. n ≤ later.faults) same why.1, subst (λ n. Rises n later.faults) same why.2)
ends_so connections talks before behind later serve.Memory few same why not = absurd (not refl)
