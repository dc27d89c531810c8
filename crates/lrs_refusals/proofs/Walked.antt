-- The statements of a session are looked at one behind the other, each under the id that was found for it.
use Rattle.std.proofs.Common.{◌≡◌, ℕ, suc, ◌+◌, List, [], ◌∷◌, length, drop, Option, Some, None, refl, sym, ap, ◌∙◌}
use Rattle.std.specs.Prelude.{slice_get}
use Rattle.std.specs.Option.{option_or}
use Rattle.lrs_made.specs.Cmi5SessionViews.{SeenSession}
use Rattle.lrs_ids.specs.Ids.{Supply}
use Rattle.lrs_json.specs.View.{view}
use Rattle.lrs_json.specs.declared.tree.Tree.{Tree}
use Rattle.lrs_made.specs.LrsStateState.{State}
use Rattle.lrs_refusals.proofs.Naming.{next_with_id, with_ids_again}
use Rattle.lrs_refusals.specs.Meeting.{refused_behind, refused_from, refused_next, session_behind}
use Rattle.lrs_refusals.specs.Naming.{with_these_ids}
use Rattle.lrs_replies.specs.declared.answered.Refusal.{Refusal}
use Rattle.xapi_index.specs.Batches.{WithId, ids_under, supply_behind, with_ids}
use Rattle.xapi_statement.specs.Statement.{own_id}

-- the next one isn't refused
pub next_passed_on : (st : State) (session next : SeenSession) (ids : List (List ℕ)) (ts : List Tree) (at : ℕ) (id : List ℕ) (t : Tree) → slice_get ids at ≡ Some id → slice_get ts at ≡ Some t
    → refused_next st session t ≡ None → next ≡ session_behind st session (record { id = id; tree = t }) → refused_from st session ids ts at ≡ refused_from st next ids ts (at + 1)
next_passed_on st session next ids ts at id t first second none is =
    let n : WithId = record { id = id; tree = t } in
    let rest : List WithId = with_these_ids (drop (at + 1) ids) (drop (at + 1) ts) in
    ap (λ (ns : List WithId). refused_behind st session ns) (next_with_id ids ts at id t first second)
    ∙ (ap (λ (o : Option Refusal). option_or o (refused_behind st (session_behind st session n) rest)) none
    ∙ sym (ap (λ (v : SeenSession). refused_behind st v rest) is))

-- the next one is
pub next_refused : (st : State) (session : SeenSession) (ids : List (List ℕ)) (ts : List Tree) (at : ℕ) (id : List ℕ) (t : Tree) (r : Refusal) → slice_get ids at ≡ Some id → slice_get ts at ≡ Some t
    → refused_next st session t ≡ Some r → refused_from st session ids ts at ≡ Some r
next_refused st session ids ts at id t r first second is =
    let n : WithId = record { id = id; tree = t } in
    let rest : List WithId = with_these_ids (drop (at + 1) ids) (drop (at + 1) ts) in
    ap (λ (ns : List WithId). refused_behind st session ns) (next_with_id ids ts at id t first second)
    ∙ ap (λ (o : Option Refusal). option_or o (refused_behind st (session_behind st session n) rest)) is

-- all of them, under the ids of a supply
pub all_walked : (st : State) (session whole : SeenSession) (supply : Supply) (ids : List (List ℕ)) (ts : List Tree) → session ≡ whole → ids ≡ ids_under (with_ids supply ts)
    → refused_behind st session (with_these_ids ids ts) ≡ refused_behind st whole (with_ids supply ts)
all_walked st session whole supply ids ts same named =
    ap (λ (v : SeenSession). refused_behind st v (with_these_ids ids ts)) same
    ∙ ap (λ (ns : List WithId). refused_behind st whole ns) (ap (λ (names : List (List ℕ)). with_these_ids names ts) named ∙ with_ids_again supply ts)

names_long : (supply : Supply) (ts : List Tree) → length (ids_under (with_ids supply ts)) ≡ length ts
names_long supply [] = refl
names_long supply (t ∷ ts) = ap suc (names_long (supply_behind supply (own_id (view t))) ts)

pub as_long : (supply : Supply) (ids : List (List ℕ)) (ts : List Tree) → ids ≡ ids_under (with_ids supply ts) → length ids ≡ length ts
as_long supply ids ts named = ap (λ (names : List (List ℕ)). length names) named ∙ names_long supply ts
