-- Which sessions are open and idle, as the program finds it.
use Rattle.std.proofs.Common.{◌≡◌, ◌+◌, ◌*◌, ◌<◌, ℕ, max, Bool, true, false, not, ◌&&◌, Option, Some, None, is_some, slice_get, nat_le, refl, sym, ap, ◌∙◌, arith}
use Rattle.std.specs.Option.{option_map_or}
use Rattle.std.proofs.lemmas.Bool.{and_left, and_right, leb-false, lt-leb}
use Rattle.cmi5_course.specs.declared.launch.Launch.{Launch}
use Rattle.lrs_made.specs.Cmi5SessionMoments.{last_own}
use Rattle.lrs_made.specs.LrsHistoryEndings.{desk_moment, is_idle, is_open}
use Rattle.lrs_made.specs.LrsHistorySessions.{is_closed}
use Rattle.lrs_made.specs.LrsStateState.{State}

-- what comes behind one that is too late is too late
later_still : (a b more moment : ℕ) → nat_le (a + more) moment ≡ false → nat_le (max a b + more) moment ≡ false
later_still a b more moment late =
    let behind : moment < a + more = leb-false (a + more) moment late in
    lt-leb (max a b + more) moment (omega arith)

-- the desk's moment doesn't lie so far back
pub desk_late : (st : State) (seconds moment number : ℕ) → nat_le (desk_moment st number + 1000 * seconds) moment ≡ false → (is_idle st seconds moment number && is_open st number) ≡ false
desk_late st seconds moment number late = by_launch (slice_get st.launches number) refl
  where
    by_launch : (o : Option Launch) → slice_get st.launches number ≡ o → (is_idle st seconds moment number && is_open st number) ≡ false
    by_launch None is =
        and_right (is_idle st seconds moment number) (is_open st number) (ap (λ (p : Option Launch). is_some p && not (is_closed st number)) is)
    by_launch (Some launch) is =
        and_left (is_idle st seconds moment number) (is_open st number)
        (ap (λ (p : Option Launch). nat_le (option_map_or (λ (l : Launch). max (desk_moment st number) (last_own l.session 0 st.statements)) p 0 + 1000 * seconds) moment) is
        ∙ later_still (desk_moment st number) (last_own launch.session 0 st.statements) (1000 * seconds) moment late)

pub idle_alone : (idle is_there : Bool) → is_there ≡ true → idle ≡ (idle && is_there)
idle_alone true is_there is = sym is
idle_alone false is_there is = refl
