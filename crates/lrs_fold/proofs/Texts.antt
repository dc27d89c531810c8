-- The texts that are handed on are those of the first statements that come.
use Rattle.std.proofs.Common.{◌≡◌, ◌++◌, ◌∙◌, ◌+◌, ℕ, zero, suc, Bool, true, false, not, if◌then◌else◌, List, [], ◌∷◌, take, map, Option, Some, None, ap, arith, refl, subst, sym}
use Rattle.std.specs.List.{prefix_len}
use Rattle.lrs_fold.specs.Texts.{texts_for}
use Rattle.lrs_ids.specs.Ids.{Supply}
use Rattle.lrs_json.specs.declared.tree.Tree.{Tree}
use Rattle.lrs_json.specs.View.{view}
use Rattle.lrs_learning.specs.LrsStateState.{State}
use Rattle.lrs_learning.specs.LrsStateEffectEffect.{Effect}
use Rattle.lrs_reads.specs.LrsHistoryEffects.{effect, effect_of, owed_in_session, with_owed}
use Rattle.lrs_reads.specs.LrsHistoryOccasions.{Occasion, supply_in}
use Rattle.lrs_reads.specs.LrsHistoryWhose.{authority_of, launch_of, who_is}
use Rattle.lrs_reads.specs.LrsRefusalsKnown.{IsKnown, TellHeld, leading_new}
use Rattle.lrs_reads.specs.LrsRefusalsKnownBatch.{Batch}
use Rattle.lrs_reads.specs.LrsRefusalsKnownKnown.{Known}
use Rattle.lrs_reads.specs.LrsRefusalsKnownKnownTheVariants as known
use Rattle.lrs_reads.specs.LrsRefusalsSubmissions.{IsWrittenIf}
use Rattle.lrs_reads.specs.LrsRefusalsPreparedTexts.{PreparedTexts}
use Rattle.lrs_record.specs.Writes.{trees_of}
use Rattle.lrs_record.specs.declared.entry.Entry.{Entry}
use Rattle.lrs_record.specs.declared.entry.Write.{Write}
use Rattle.lrs_record.specs.declared.entry.Write.TheVariants as write
use Rattle.lrs_replies.specs.Texts.{token_text}
use Rattle.xapi_index.specs.Ahead.{AreTextsOf}
use Rattle.xapi_index.specs.Batches.{WithId, held_of, ids_under, kept_by, supply_behind, supply_after, with_ids}
use Rattle.xapi_statement.specs.Statements.{new_ones}
use Rattle.xapi_statement.specs.declared.Authority.{Authority}
use Rattle.xapi_statement.specs.Stored.{StoredStatement}
use Rattle.xapi_statement.specs.Statement.{own_id}

abbrev trees_under : List WithId → List Tree
trees_under ns = map (λ (n : WithId). n.tree) ns

none_taken : (n : ℕ) (ss : List StoredStatement) → AreTextsOf (take n []) ss
none_taken zero ss = tt
none_taken (suc n) ss = tt

-- as far as none is held, each statement that comes is the next new one
are_new : (st : State) (moment : ℕ) (by : Authority) (hs : List Bool) (ns : List WithId) (more : List StoredStatement) → TellHeld st hs (ids_under ns)
    → AreTextsOf (take (prefix_len not hs) (trees_under ns)) (new_ones st.statements (map (held_of moment by) ns) ++ more)
are_new st moment by [] ns more tells = tt
are_new st moment by (true ∷ hs) ns more tells = tt
are_new st moment by (false ∷ hs) [] more tells = none_taken (1 + prefix_len not hs) (new_ones st.statements [] ++ more)
are_new st moment by (false ∷ hs) (n ∷ ns) more tells =
    let rest = new_ones st.statements (map (held_of moment by) ns) in
    let one : suc (prefix_len not hs) ≡ 1 + prefix_len not hs = omega arith in
    subst (λ (k : ℕ). AreTextsOf (take k (n.tree ∷ trees_under ns)) (new_ones st.statements (map (held_of moment by) (n ∷ ns)) ++ more)) one
    (subst (λ (b : Bool). AreTextsOf (n.tree ∷ take (prefix_len not hs) (trees_under ns)) ((if b then rest else held_of moment by n ∷ rest) ++ more)) tells.0
    (refl, are_new st moment by hs ns more tells.1))

some_are : (w : PreparedTexts) (n : ℕ) (ss : List StoredStatement) → AreTextsOf (take n w.texts) ss → AreTextsOf (texts_for (Some w) n ss) ss
some_are w n [] are = tt
some_are w n (s ∷ ss) are = are

none_are : (w : PreparedTexts) (n : ℕ) (ss : List StoredStatement) → w.texts ≡ [] → AreTextsOf (texts_for (Some w) n ss) ss
none_are w n ss none = some_are w n ss (subst (λ (ts : List Tree). AreTextsOf (take n ts) ss) (sym none) (none_taken n ss))

-- of statements that are kept under these ids, by whom they come
kept_are : (st : State) (at : Occasion) (supply : Supply) (w : PreparedTexts) (hs : List Bool) (ns : List WithId) → w.texts ≡ trees_under ns → TellHeld st hs (ids_under ns)
    → let ss = with_owed st at supply (new_ones st.statements (kept_by at.moment (authority_of st at.by) ns)) in AreTextsOf (texts_for (Some w) (prefix_len not hs) ss) ss
kept_are st at supply w hs ns of tells = by_authority (authority_of st at.by)
  where
    coming : Option Authority → List StoredStatement
    coming by = with_owed st at supply (new_ones st.statements (kept_by at.moment by ns))

    by_authority : (by : Option Authority) → AreTextsOf (texts_for (Some w) (prefix_len not hs) (coming by)) (coming by)
    by_authority None = tt
    by_authority (Some by) =
        let new = new_ones st.statements (map (held_of at.moment by) ns) in
        some_are w (prefix_len not hs) (coming (Some by))
        (subst (λ (ts : List Tree). AreTextsOf (take (prefix_len not hs) ts) (coming (Some by))) (sym of)
        (are_new st at.moment by hs ns (owed_in_session st supply at.moment new (launch_of st at.by)) tells))

trees_with : (supply : Supply) (ts : List Tree) → trees_under (with_ids supply ts) ≡ ts
trees_with supply [] = refl
trees_with supply (t ∷ ts) = ap (λ (us : List Tree). t ∷ us) (trees_with (supply_behind supply (own_id (view t))) ts)

abbrev occasion_of : State → Entry → Write → Occasion
occasion_of st e x = record { by = who_is st e.caller; moment = e.moment; token = token_text st.length e.draw.secret; supply = supply_in st x e.draw }

abbrev Are : State → Entry → Known → PreparedTexts → Write → Type 0
Are st e k w x = let ss = (effect_of st (occasion_of st e x) x).statements in AreTextsOf (texts_for (Some w) (leading_new x k) ss) ss

put_are : (st : State) (e : Entry) (k : Known) (w : PreparedTexts) (id : List ℕ) (t : Tree) → IsKnown st e.draw (write.Put id t) k → w.texts ≡ t ∷ [] → Are st e k w (write.Put id t)
put_are st e known.Nothing w id t told of = kept_are st (occasion_of st e (write.Put id t)) (supply_in st (write.Put id t) e.draw) w [] (record { id = id; tree = t } ∷ []) of tt
put_are st e (known.Put held) w id t told of = kept_are st (occasion_of st e (write.Put id t)) (supply_in st (write.Put id t) e.draw) w (held ∷ []) (record { id = id; tree = t } ∷ []) of (told, tt)
put_are st e (known.Batch b) w id t told of = kept_are st (occasion_of st e (write.Put id t)) (supply_in st (write.Put id t) e.draw) w [] (record { id = id; tree = t } ∷ []) of tt

post_are : (st : State) (e : Entry) (k : Known) (w : PreparedTexts) (ts : List Tree) → IsKnown st e.draw (write.Post ts) k → w.texts ≡ ts → Are st e k w (write.Post ts)
post_are st e k w ts told of = by_known k told
  where
    supply : Supply
    supply = supply_in st (write.Post ts) e.draw

    under : w.texts ≡ trees_under (with_ids supply ts)
    under = of ∙ sym (trees_with supply ts)

    by_known : (k : Known) → IsKnown st e.draw (write.Post ts) k → Are st e k w (write.Post ts)
    by_known known.Nothing told = kept_are st (occasion_of st e (write.Post ts)) (supply_after supply ts) w [] (with_ids supply ts) under tt
    by_known (known.Put held) told = kept_are st (occasion_of st e (write.Post ts)) (supply_after supply ts) w [] (with_ids supply ts) under tt
    by_known (known.Batch b) told =
        kept_are st (occasion_of st e (write.Post ts)) (supply_after supply ts) w b.held (with_ids supply ts) under (subst (λ (ids : List (List ℕ)). TellHeld st b.held ids) told.ids told.held)

-- a write that brings no statements has none written
none_written : (st : State) (e : Entry) (w : PreparedTexts) (x : Write) → w.texts ≡ [] → let ss = (effect_of st (occasion_of st e x) x).statements in AreTextsOf (texts_for (Some w) 0 ss) ss
none_written st e w x none = none_are w 0 (effect_of st (occasion_of st e x) x).statements none

-- by what is written
written_are : (st : State) (e : Entry) (k : Known) (w : PreparedTexts) (x : Write) → IsKnown st e.draw x k → w.texts ≡ trees_of x → Are st e k w x
written_are st e k w (write.Put id t) told of = put_are st e k w id t told of
written_are st e k w (write.Post ts) told of = post_are st e k w ts told of
written_are st e k w other told of = none_written st e w other of

texts_are : (st : State) (e : Entry) (k : Known) (o : Option PreparedTexts) → IsKnown st e.draw e.write k → IsWrittenIf e.write o
    → let ss = (effect st e).statements in AreTextsOf (texts_for o (leading_new e.write k) ss) ss
texts_are st e k None told written = tt
texts_are st e k (Some w) told written = written_are st e k w e.write told written.texts

-- the same of what was made
pub texts_now : (st : State) (e : Entry) (k : Known) (o : Option PreparedTexts) (n : ℕ) (x : Effect) (ts : List Tree) → IsKnown st e.draw e.write k → IsWrittenIf e.write o
    → n ≡ leading_new e.write k → x ≡ effect st e → ts ≡ texts_for o n x.statements → AreTextsOf ts x.statements
texts_now st e k o n x ts told written count of is =
    subst (λ (us : List Tree). AreTextsOf us x.statements) (sym is)
    (subst (λ (y : Effect). AreTextsOf (texts_for o n y.statements) y.statements) (sym of)
    (subst (λ (m : ℕ). AreTextsOf (texts_for o m (effect st e).statements) (effect st e).statements) (sym count) (texts_are st e k o told written)))
