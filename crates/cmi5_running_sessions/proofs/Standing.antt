-- What sessions stand for behind one statement more, and behind one that is voided.
use Rattle.std.proofs.Common.{◌+◌, ◌<◌, ◌^◌, true, false, List, [], ◌∷◌, ◌++◌, length, option_map, refl}
use Rattle.cmi5_running_sessions.specs.Maps.{ChangesAt, ChangesUnits, TextMap, UnitsByRegistration, own_behind, reached_behind, reached_without}
use Rattle.cmi5_running_sessions.specs.Kept.{SeenSessions, SaidStandsFor}
use Rattle.cmi5_running_sessions.specs.Room.{HasSlotsFor, KeepsSlots, needs_own, needs_unit}
use Rattle.cmi5_running_sessions.specs.declared.own.OwnSaid.{OwnSaid}
use Rattle.cmi5_running_sessions.proofs.Counting.{counted_more, voided_more, voided_now}
use Rattle.cmi5_running_sessions.proofs.Hearing.{heard, voided_same}
use Rattle.cmi5_running_sessions.proofs.Making.{filled_kept, own_kept, units_kept}
use Rattle.cmi5_session.specs.Marked.{MarkedStatement, mark}
use Rattle.lrs_json.specs.View.{view}
use Rattle.cmi5_session.specs.XapiStatementStored.{StoredStatement}

abbrev pub seen_of : TextMap OwnSaid → UnitsByRegistration → SeenSessions
seen_of own reached = record { own = own; reached = reached }

-- a statement is taken in that is voided already
module _ (s : StoredStatement) (own new : TextMap OwnSaid) (reached : UnitsByRegistration) (slots : HasSlotsFor (seen_of own reached) s) (changed : ChangesAt (λ id. needs_own id s) (option_map (own_behind s)) own new) where
  pub stands_voided : (those : List MarkedStatement) → SaidStandsFor (seen_of own reached) those → SaidStandsFor (seen_of new reached) (those ++ mark s true ∷ [])
  stands_voided those stands = record {
    own = heard s (seen_of own reached) (seen_of new reached) changed slots.own those true stands.own;
    reached = voided_more s (seen_of own reached) (seen_of new reached) refl those stands.reached;
  }

  pub slots_voided : KeepsSlots (seen_of own reached) (seen_of new reached)
  slots_voided = own_kept (λ id. needs_own id s) (own_behind s) own new reached changed

-- a statement is taken in that counts
module _ (s : StoredStatement) (own new : TextMap OwnSaid) (reached more : UnitsByRegistration) (slots : HasSlotsFor (seen_of own reached) s) (changed : ChangesAt (λ id. needs_own id s) (option_map (own_behind s)) own new)
    (counted : ChangesUnits (λ r a. needs_unit r a s) (option_map (reached_behind (view s.received))) reached more) where
  pub stands_counting : (those : List MarkedStatement) → length those + 1 < 2 ^ 64 → SaidStandsFor (seen_of own reached) those → SaidStandsFor (seen_of new more) (those ++ mark s false ∷ [])
  stands_counting those small stands = record {
    own = heard s (seen_of own reached) (seen_of new more) changed slots.own those false stands.own;
    reached = counted_more s (seen_of own reached) (seen_of new more) counted slots.unit those small stands.reached;
  }

  pub slots_counting : KeepsSlots (seen_of own reached) (seen_of new more)
  slots_counting = filled_kept (λ id. needs_own id s) (λ r a. needs_unit r a s) (own_behind s) (reached_behind (view s.received)) (seen_of own reached) (seen_of new more) changed counted

-- a statement is voided that was taken in
module _ (s : StoredStatement) (own : TextMap OwnSaid) (reached less : UnitsByRegistration) (changed : ChangesUnits (λ r a. needs_unit r a s) (option_map (reached_without (view s.received))) reached less) where
  pub stands_now_voided : (before behind : List MarkedStatement) → SaidStandsFor (seen_of own reached) (before ++ mark s false ∷ behind) → SaidStandsFor (seen_of own less) (before ++ mark s true ∷ behind)
  stands_now_voided before behind stands = record {
    own = voided_same s (seen_of own reached) (seen_of own less) refl before behind stands.own;
    reached = voided_now s (seen_of own reached) (seen_of own less) changed before behind stands.reached;
  }

  pub slots_now_voided : KeepsSlots (seen_of own reached) (seen_of own less)
  slots_now_voided = units_kept (λ r a. needs_unit r a s) (reached_without (view s.received)) own reached less changed
