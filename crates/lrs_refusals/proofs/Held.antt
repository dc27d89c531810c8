-- A statement is told why it doesn't go beside the one that is held under its id; a new one what is told of a new one.
use Rattle.std.proofs.Common.{◌≡◌, ℕ, List, true, false, Option, Some, None, refl}
use Rattle.std.specs.Prelude.{is_some, unwrap_or}
use Rattle.lrs_made.specs.LrsHistoryRefusals.{refused_over, refused_under}
use Rattle.lrs_json.specs.Json.{Json}
use Rattle.lrs_made.specs.LrsStateState.{State}
use Rattle.lrs_refusals.specs.Known.{is_given_held}
use Rattle.lrs_refusals.specs.Meeting.{told_beside, told_if_held}
use Rattle.lrs_replies.specs.declared.answered.Refusal.{Refusal}
use Rattle.xapi_statement.specs.Statements.{held_under}
use Rattle.xapi_statement.specs.Stored.{StoredStatement}

beside_or_new : (new : Option Refusal) (id : List ℕ) (j : Json) (held : Option StoredStatement) → refused_over new id j held ≡ unwrap_or (told_beside id j held) new
beside_or_new new id j None = refl
beside_or_new new id j (Some held) = refl

pub held_or_new : (st : State) (new : Option Refusal) (id : Option (List ℕ)) (j : Json) → refused_under st new id j ≡ unwrap_or (told_if_held st id j) new
held_or_new st new None j = refl
held_or_new st new (Some id) j = beside_or_new new id j (held_under id st.statements)

-- what is told of a statement that isn't new tells that one is held
beside_held : (id : List ℕ) (j : Json) (told : Option Refusal) (held : Option StoredStatement) → told_beside id j held ≡ Some told → true ≡ is_some held
beside_held id j told None is = cc is
beside_held id j told (Some held) is = refl

pub told_held : (st : State) (id : Option (List ℕ)) (j : Json) (told : Option Refusal) → told_if_held st id j ≡ Some told → true ≡ is_given_held st id
told_held st None j told is = cc is
told_held st (Some id) j told is = beside_held id j told (held_under id st.statements) is

beside_new : (id : List ℕ) (j : Json) (held : Option StoredStatement) → told_beside id j held ≡ None → false ≡ is_some held
beside_new id j None is = refl
beside_new id j (Some held) is = cc is

pub untold_new : (st : State) (id : Option (List ℕ)) (j : Json) → told_if_held st id j ≡ None → false ≡ is_given_held st id
untold_new st None j is = refl
untold_new st (Some id) j is = beside_new id j (held_under id st.statements) is
