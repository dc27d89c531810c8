-- What is kept of progress stays true through what is done to the parts.
use Rattle.std.proofs.Common.{◌≡◌, ℕ, List, [], length, refl, sym, ◌∙◌, ap, subst, inl, inr, Option, Some, None, Result, Ok, Err, OnOk, slice_get}
use Rattle.std.specs.Prelude.{◌⊎◌, is_some, true}
use Rattle.std.specs.List.{list_any}
use Rattle.std.specs.Map.{lookup}
use Rattle.std.specs.Option.{option_map_or}
use Rattle.std.proofs.lemmas.Option.{none-some}
use Rattle.cmi5_running_sessions.specs.Kept.{SeenSessions, SaidStandsFor, is_same, nothing_reached, nothing_said, own_said, reached_in, unit_of, units_of}
use Rattle.cmi5_running_sessions.specs.Room.{AddsNoSlots, HasOwnSlot, HasSlotsFor, HasUnitSlot, KeepsSlots, KeepsSame, MakesSlots, TakesSlotsBack, needs_own, needs_unit}
use Rattle.cmi5_running_sessions.specs.declared.own.OwnSaid.{OwnSaid}
use Rattle.cmi5_running_sessions.specs.declared.units.Reached.{Reached}
use Rattle.cmi5_running_sessions.proofs.Making.{units_back}
use Rattle.cmi5_running_verdicts.specs.Running.{SeenRunning}
use Rattle.cmi5_running_verdicts.specs.declared.tally.Tally.{Tally}
use Rattle.cmi5_running_sessions.specs.Cmi5SessionMarked.{MarkedStatement, marked, statements_of}
use Rattle.lrs_ids.specs.Ids.{are_distinct}
use Rattle.lrs_state.specs.Editions.{SeenEdition, editions_after}
use Rattle.lrs_state.specs.Founding.{founding_after}
use Rattle.lrs_parts.specs.Progress.{AreCounted, KeepsUp, HasTallies, IsUpToDate}
use Rattle.lrs_state.specs.Registrations.{registrations_after}
use Rattle.lrs_state.specs.State.{State}
use Rattle.lrs_state.specs.declared.founding.Founding.{Founding}
use Rattle.lrs_parts.specs.declared.progress.Progress.{Progress}
use Rattle.lrs_state.specs.declared.registrations.HeldRegistration.{HeldRegistration}
use Rattle.lrs_parts.proofs.Enrolling.{counted_under, enrolled_on, registered}
use Rattle.lrs_register.specs.Register.{with_new}
use Rattle.lrs_register.specs.declared.change.Change.{Change}
use Rattle.xapi_statement.specs.Statements.{ids_of}
use Rattle.xapi_statement.specs.Stored.{StoredStatement}

-- ---- slots for what is said

pub slots_kept : (s : SeenSessions) → KeepsSlots s s
slots_kept s = record { own = λ id has. has; unit = λ registration activity has. has }

pub slots_on : (a b c : SeenSessions) → KeepsSlots a b → KeepsSlots b c → KeepsSlots a c
slots_on a b c first second = record {
  own = λ id has. second.own id (first.own id has);
  unit = λ registration activity has. second.unit registration activity (first.unit registration activity has);
}

pub still_has : (old new : SeenSessions) (s : StoredStatement) → KeepsSlots old new → HasSlotsFor old s → HasSlotsFor new s
still_has old new s keeps has = record {
  own = λ id needs. keeps.own id (has.own id needs);
  unit = λ registration activity needs. keeps.unit registration activity (has.unit registration activity needs);
}

-- slots that were made, and taken back
own_back : (statements : List StoredStatement) (before mid new : SeenSessions) → MakesSlots statements before mid → TakesSlotsBack statements mid new
    → (id : List ℕ) → HasOwnSlot id new → HasOwnSlot id before
own_back statements before mid new made taken id has = by_made (made.own id (taken.fewer.own id has))
  where
    by_own : (o : Option OwnSaid) → lookup (is_same id) before.own ≡ o → list_any (needs_own id) statements ≡ true → HasOwnSlot id before
    by_own (Some said) is needs = ap (λ (x : Option OwnSaid). is_some x) is
    by_own None is needs =
        absurd (taken.own id needs (taken.same.own id ∙ (made.same.own id ∙ ap (λ (x : Option OwnSaid). option_map_or (λ (said : OwnSaid). said) x nothing_said) is)) has)

    by_made : HasOwnSlot id before ⊎ (list_any (needs_own id) statements ≡ true) → HasOwnSlot id before
    by_made (inl had) = had
    by_made (inr needs) = by_own (lookup (is_same id) before.own) refl needs

unit_back : (statements : List StoredStatement) (before mid new : SeenSessions) → MakesSlots statements before mid → TakesSlotsBack statements mid new
    → (registration activity : List ℕ) → HasUnitSlot registration activity new → HasUnitSlot registration activity before
unit_back statements before mid new made taken registration activity has = by_made (made.unit registration activity (taken.fewer.unit registration activity has))
  where
    by_unit : (o : Option Reached) → lookup (is_same activity) (units_of registration before.reached) ≡ o → list_any (needs_unit registration activity) statements ≡ true → HasUnitSlot registration activity before
    by_unit (Some reached) is needs = ap (λ (x : Option Reached). is_some x) is
    by_unit None is needs =
        absurd (taken.unit registration activity needs
        (taken.same.reached registration activity ∙ (made.same.reached registration activity ∙ ap (λ (x : Option Reached). option_map_or (λ (r : Reached). r) x nothing_reached) is)) has)

    by_made : HasUnitSlot registration activity before ⊎ (list_any (needs_unit registration activity) statements ≡ true) → HasUnitSlot registration activity before
    by_made (inl had) = had
    by_made (inr needs) = by_unit (lookup (is_same activity) (units_of registration before.reached)) refl needs

pub said_back : (statements : List StoredStatement) (before mid new : SeenSessions) → MakesSlots statements before mid → TakesSlotsBack statements mid new → AddsNoSlots before new
said_back statements before mid new made taken = record {
  own = own_back statements before mid new made taken;
  unit = unit_back statements before mid new made taken;
  units = units_back statements before mid new made taken (unit_back statements before mid new made taken);
}

-- ---- what is kept

stands_same : (old new : SeenSessions) (those : List MarkedStatement) → KeepsSame old new → SaidStandsFor old those → SaidStandsFor new those
stands_same old new those same stands = record {
  own = λ id. same.own id ∙ stands.own id;
  reached = λ registration activity. same.reached registration activity ∙ stands.reached registration activity;
}

counted_same : (old new : SeenRunning) (founding : Option Founding) (editions : List SeenEdition) (registrations : List HeldRegistration) (those : List MarkedStatement) → new.held ≡ old.held
    → AreCounted old founding editions registrations those → AreCounted new founding editions registrations those
counted_same old new founding editions registrations those same counted = record {
  long = ap (λ (hs : List (List Tally)). length hs) same ∙ counted.long;
  each = λ id k r index there.
      let its : HasTallies old founding editions those k r = counted.each id k r index there in
      record {
        enrolment = its.enrolment;
        enrolled = its.enrolled;
        stands = record { tallies = its.stands.tallies; held = ap (λ (hs : List (List Tally)). slice_get hs k) same ∙ its.stands.held; are = its.stands.are };
      };
}

-- what stands ahead is let go
pub settled : (old new : Progress) (founding : Option Founding) (editions : List SeenEdition) (registrations : List HeldRegistration) (those : List MarkedStatement)
    → new.sessions ≡ old.sessions → new.running.held ≡ old.running.held → KeepsUp old founding editions registrations those → KeepsUp new founding editions registrations those
settled old new founding editions registrations those sessions held follows = record {
  sessions = subst (λ (s : SeenSessions). SaidStandsFor s those) (sym sessions) follows.sessions;
  counted = counted_same old.running new.running founding editions registrations those held follows.counted;
}

-- slots alone change
pub kept_still : (old new : Progress) (founding : Option Founding) (editions editions_now : List SeenEdition) (registrations registrations_now : List HeldRegistration)
    (statements statements_now : List StoredStatement) → KeepsSame old.sessions new.sessions → new.running.held ≡ old.running.held → editions_now ≡ editions
    → registrations_now ≡ registrations → statements_now ≡ statements → IsUpToDate old founding editions registrations statements → IsUpToDate new founding editions_now registrations_now statements_now
kept_still old new founding editions editions_now registrations registrations_now statements statements_now sessions running same_editions same_registrations same_statements kept =
    subst (λ (cs : List SeenEdition). IsUpToDate new founding cs registrations_now statements_now) (sym same_editions)
    (subst (λ (rs : List HeldRegistration). IsUpToDate new founding editions rs statements_now) (sym same_registrations)
    (subst (λ (ss : List StoredStatement). IsUpToDate new founding editions registrations ss) (sym same_statements) here))
  where
    here : IsUpToDate new founding editions registrations statements
    here = record {
      distinct = kept.distinct;
      follows = record {
        sessions = stands_same old.sessions new.sessions (marked statements) sessions kept.follows.sessions;
        counted = counted_same old.running new.running founding editions registrations (marked statements) running kept.follows.counted;
      };
    }

-- a founding, an edition or a registration comes
pub kept_enrolled : (p : Progress) (running : SeenRunning) (founding later new : Option Founding) (editions more : List SeenEdition) (coming : Change SeenEdition)
    (registrations registrations_now : List HeldRegistration) (change : Change HeldRegistration) (statements : List StoredStatement) → later ≡ founding_after founding new
    → more ≡ editions_after editions coming → coming.replaced ≡ None → registrations_now ≡ registrations_after registrations change → change.replaced ≡ None
    → ((rs : List HeldRegistration) → AreCounted p.running later more rs (marked statements) → AreCounted running later more (with_new rs change.new) (marked statements))
    → IsUpToDate p founding editions registrations statements → IsUpToDate (record { sessions = p.sessions; running = running; targets = p.targets }) later more registrations_now statements
kept_enrolled p running founding later new editions more coming registrations registrations_now change statements founded came stay made made_stay step kept = record {
  distinct = kept.distinct;
  follows = record {
    sessions = kept.follows.sessions;
    counted = subst (λ (rs : List HeldRegistration). AreCounted running later more rs (marked statements)) (sym (made ∙ registered registrations change made_stay))
        (step registrations (counted_under p.running founding later editions more registrations (marked statements) (enrolled_on founding later new editions more coming founded came stay)
        kept.follows.counted));
  };
}

-- of a store without entries
pub kept_of_nothing : (p : Progress) (editions : List SeenEdition) (registrations : List HeldRegistration) (statements : List StoredStatement) → p.sessions.own ≡ [] → p.sessions.reached ≡ []
    → p.running.held ≡ [] → registrations ≡ [] → statements ≡ [] → IsUpToDate p None editions registrations statements
kept_of_nothing p editions registrations statements own reached held no_registrations no_statements = record {
  distinct = ap (λ (ss : List StoredStatement). are_distinct (ids_of ss)) no_statements;
  follows = record {
    sessions = record {
      own = λ id.
          ap (λ (es : List (List ℕ × OwnSaid)). option_map_or (λ (said : OwnSaid). said) (lookup (is_same id) es) nothing_said) own
          ∙ sym (ap (λ (ss : List StoredStatement). own_said id (statements_of (marked ss))) no_statements);
      reached = λ registration activity.
          ap (λ (es : List (List ℕ × List (List ℕ × Reached))). unit_of activity (units_of registration es)) reached
          ∙ sym (ap (λ (ss : List StoredStatement). reached_in registration activity (marked ss)) no_statements);
    };
    counted = record {
      long = ap (λ (hs : List (List Tally)). length hs) held ∙ sym (ap (λ (rs : List HeldRegistration). length rs) no_registrations);
      each = λ id k r index there. absurd (none-some r (sym (ap (λ (rs : List HeldRegistration). slice_get rs k) no_registrations) ∙ there));
    };
  };
}

-- ---- states and results

-- states whose parts are the same
pub same_states : (a b : State) → a.founding ≡ b.founding → a.providers ≡ b.providers → a.statements ≡ b.statements → a.documents ≡ b.documents → a.editions ≡ b.editions → a.courses ≡ b.courses
    → a.registrations ≡ b.registrations → a.launches ≡ b.launches → a.sessions ≡ b.sessions → a.made_sessions ≡ b.made_sessions → a.keys ≡ b.keys → a.tokens ≡ b.tokens → a.length ≡ b.length
    → a.last ≡ b.last → a ≡ b
same_states a b founding providers statements documents editions courses registrations launches sessions made_sessions keys tokens long last = λ i. record {
  founding = founding i;
  providers = providers i;
  statements = statements i;
  documents = documents i;
  editions = editions i;
  courses = courses i;
  registrations = registrations i;
  launches = launches i;
  sessions = sessions i;
  made_sessions = made_sessions i;
  keys = keys i;
  tokens = tokens i;
  length = long i;
  last = last i;
}

pub all_ok : {T E A B C D F G Z : Type 0} (r : Result T E) → OnOk r A → OnOk r B → OnOk r C → OnOk r D → OnOk r F → OnOk r G → (A → B → C → D → F → G → Z) → OnOk r Z
all_ok (Ok t) a b c d f g make = make a b c d f g
all_ok (Err e) a b c d f g make = tt
