-- Who is let into an area stays so: tokens are never taken back.
use Rattle.std.proofs.Common.{◌≡◌, ℕ, List, Bool, true, false, Option, Some, None, refl, ap, ◌∙◌}
use Rattle.std.specs.Prelude.{if◌then◌else◌}
use Rattle.lrs_command.specs.declared.who.Who.{Who}
use Rattle.lrs_command.specs.declared.who.Who.TheVariants as who
use Rattle.lrs_history.specs.History.{state, state_from}
use Rattle.lrs_history.specs.Refusals.{barred}
use Rattle.lrs_history.specs.Whose.{known_as, who_is}
use Rattle.lrs_laws.proofs.GivenTokens.{launch_on}
use Rattle.lrs_laws.proofs.Keepers.{state_from-append}
use Rattle.lrs_laws.proofs.PageLaws.{founding_on, known_on}
use Rattle.lrs_laws.specs.Laws.{CallersStayLetIn}
use Rattle.lrs_state.specs.Founding.{is_admin}
use Rattle.lrs_state.specs.Launches.{launch_of_token}
use Rattle.lrs_state.specs.Providers.{index_of_token}
use Rattle.lrs_state.specs.State.{State, nothing}
use Rattle.lrs_state.specs.declared.founding.Founding.{Founding}
use Rattle.lrs_record.specs.declared.entry.Area.{Area}
use Rattle.lrs_record.specs.declared.entry.Area.TheVariants.{Free, Store, Desk}
use Rattle.lrs_record.specs.declared.entry.Caller.{Caller}
use Rattle.lrs_record.specs.declared.entry.Caller.TheVariants.{Nobody, Operator, Token}
use Rattle.lrs_record.specs.declared.entry.Entry.{Entry}

-- ---- who is let in where another is

-- an admin everywhere
admin_in : (area : Area) → barred area who.Admin ≡ None
admin_in Free = refl
admin_in Store = refl
admin_in Desk = refl

-- a provider where a session is
provider_in : (area : Area) (j k : ℕ) → barred area (who.Session j) ≡ None → barred area (who.Provider k) ≡ None
provider_in Free j k is = refl
provider_in Store j k is = refl
provider_in Desk j k is = cc is

-- everyone where nobody is barred
all_in : (area : Area) (by : Who) → barred area who.Unknown ≡ None → barred area by ≡ None
all_in Free by is = refl
all_in Store by is = cc is
all_in Desk by is = cc is

-- ---- later

-- of a token by its indices among those of providers and of sessions, before and later
by_indices : (area : Area) (o p later_o later_p : Option ℕ) → ((k : ℕ) → o ≡ Some k → later_o ≡ Some k) → ((k : ℕ) → p ≡ Some k → later_p ≡ Some k)
    → barred area (known_as o p) ≡ None → barred area (known_as later_o later_p) ≡ None
by_indices area (Some k) p later_o later_p provider session is = ap (λ o. barred area (known_as o later_p)) (provider k refl) ∙ is
by_indices area None (Some j) (Some k) later_p provider session is = provider_in area j k is
by_indices area None (Some j) None later_p provider session is = ap (λ p. barred area (known_as None p)) (session j refl) ∙ is
by_indices area None None later_o later_p provider session is = all_in area (known_as later_o later_p) is

-- of a token that may be the admin's, before and later
by_admin : (area : Area) (b later_b : Bool) (by later_by : Who) → (b ≡ true → later_b ≡ true) → (barred area by ≡ None → barred area later_by ≡ None)
    → barred area (if b then who.Admin else by) ≡ None → barred area (if later_b then who.Admin else later_by) ≡ None
by_admin area b true by later_by admin other is = admin_in area
by_admin area true false by later_by admin other is = cc (admin refl)
by_admin area false false by later_by admin other is = other is

-- the admin's token stays so
admin_on : (st : State) (more : List Entry) (token : List ℕ) → is_admin st.founding token ≡ true → is_admin (state_from st more).founding token ≡ true
admin_on st more token = by_founding st.founding refl
  where
    by_founding : (o : Option Founding) → st.founding ≡ o → is_admin o token ≡ true → is_admin (state_from st more).founding token ≡ true
    by_founding None at is = cc is
    by_founding (Some founding) at is = ap (λ o. is_admin o token) (founding_on st more founding at) ∙ is

let_in_on : (st : State) (more : List Entry) (caller : Caller) (area : Area) → barred area (who_is st caller) ≡ None → barred area (who_is (state_from st more) caller) ≡ None
let_in_on st more Nobody area is = is
let_in_on st more Operator area is = is
let_in_on st more (Token token) area is =
    let later = state_from st more in
    by_admin area (is_admin st.founding token) (is_admin later.founding token)
    (known_as (index_of_token token st.providers) (launch_of_token token st.tokens)) (known_as (index_of_token token later.providers) (launch_of_token token later.tokens)) (admin_on st more token)
    (by_indices area (index_of_token token st.providers) (launch_of_token token st.tokens) (index_of_token token later.providers) (launch_of_token token later.tokens)
    (λ k at. known_on token k st more at) (λ k at. launch_on token st more k at)) is

pub callers_stay_let_in : CallersStayLetIn
callers_stay_let_in h more caller area is = ap (λ st. barred area (who_is st caller)) (state_from-append nothing h more) ∙ let_in_on (state h) more caller area is
