-- What is kept of a put and of a post: their new statements, and behind those of a session what is owed.
use Rattle.std.proofs.Common.{◌≡◌, ℕ, List, [], ◌∷◌, ◌++◌, Option, Some, None, slice_get, refl, sym, ap, ◌∙◌, subst, append-nil}
use Rattle.cmi5_course.specs.declared.launch.Launch.{Launch}
use Rattle.lrs_command.specs.declared.who.Who.{Who}
use Rattle.lrs_reads.specs.LrsRefusalsNamingProofs.{with_ids_again}
use Rattle.lrs_reads.specs.LrsRefusalsKnown.{IsBatch}
use Rattle.lrs_reads.specs.LrsRefusalsNaming.{with_these_ids}
use Rattle.lrs_reads.specs.LrsRefusalsKnownBatch.{Batch}
use Rattle.lrs_fold.specs.Written.{effect_by, speaks_in}
use Rattle.lrs_reads.specs.LrsHistoryEffects.{new_by, owed_in_session}
use Rattle.lrs_reads.specs.LrsHistoryEnrolments.{enrolled}
use Rattle.lrs_reads.specs.LrsHistoryMade.{owed_made}
use Rattle.lrs_reads.specs.LrsHistoryOccasions.{supply_in}
use Rattle.lrs_reads.specs.LrsHistoryWhose.{launch_of}
use Rattle.lrs_ids.specs.IdSupply.{GiveSame, left_of}
use Rattle.lrs_ids.specs.Ids.{Supply, supply_of}
use Rattle.lrs_json.specs.declared.tree.Tree.{Tree}
use Rattle.lrs_names.specs.declared.draw.Draw.{Draw}
use Rattle.lrs_learning.specs.LrsStateState.{State, no_change, used_in}
use Rattle.lrs_learning.specs.LrsStateAcceptanceAcceptanceTheVariants as acceptance
use Rattle.lrs_learning.specs.LrsStateEffectEffect.{Effect}
use Rattle.lrs_record.specs.declared.entry.Write.TheVariants.{Put, Post}
use Rattle.xapi_index.specs.Batches.{ids_under, supply_after, with_ids}
use Rattle.xapi_statement.specs.Stored.{StoredStatement}

-- ---- who speaks

pub says_new : (said : List StoredStatement) (s : StoredStatement) (launch by : Option Launch) → Some s ≡ slice_get said 0 → by ≡ launch → by ≡ speaks_in said launch
says_new [] s launch by some is = cc some
says_new (x ∷ xs) s launch by some is = is

pub says_nothing : (said : List StoredStatement) (launch : Option Launch) → ◌≡◌ {A = Option StoredStatement} None (slice_get said 0) → ◌≡◌ {A = Option Launch} None (speaks_in said launch)
says_nothing [] launch none = refl
says_nothing (x ∷ xs) launch none = cc none

-- a session says something new: what is owed in it comes behind
pub spoken : (st : State) (supply : Supply) (moment : ℕ) (new seen : List StoredStatement) (l : Launch) (launch : Option Launch) (all : List StoredStatement) → seen ≡ new → Some l ≡ speaks_in seen launch
    → all ≡ new ++ owed_made st l.session supply moment new (enrolled st l.registration) → all ≡ new ++ owed_in_session st supply moment new launch
spoken st supply moment [] seen l launch all same speaks owed =
    let no : ◌≡◌ {A = Option Launch} (Some l) None = speaks ∙ ap (λ (xs : List StoredStatement). speaks_in xs launch) same in
    cc no
spoken st supply moment (s ∷ ss) seen l launch all same speaks owed =
    owed
    ∙ ap (λ (o : Option Launch). (s ∷ ss) ++ owed_in_session st supply moment (s ∷ ss) o) (speaks ∙ ap (λ (xs : List StoredStatement). speaks_in xs launch) same)

-- nobody does
pub unspoken : (st : State) (supply : Supply) (moment : ℕ) (new seen : List StoredStatement) (launch : Option Launch) → seen ≡ new → ◌≡◌ {A = Option Launch} None (speaks_in seen launch)
    → new ≡ new ++ owed_in_session st supply moment new launch
unspoken st supply moment [] seen launch same none = refl
unspoken st supply moment (s ∷ ss) seen launch same none =
    sym (append-nil (s ∷ ss))
    ∙ ap (λ (o : Option Launch). (s ∷ ss) ++ owed_in_session st supply moment (s ∷ ss) o) (none ∙ ap (λ (xs : List StoredStatement). speaks_in xs launch) same)

-- ---- what is kept

-- supplies that give the same ids are the same
pub supply_same : (supply other : Supply) → GiveSame supply other → supply ≡ other
supply_same supply other same = λ i k. same.same k i

abbrev with_new : ℕ → List StoredStatement → Effect
with_new moment all = record (no_change moment) { statements = all }

pub put_kept : (st : State) (by : Who) (moment : ℕ) (draw : Draw) (id : List ℕ) (t : Tree) (none new all : List StoredStatement) → none ≡ [] → new ≡ none ++ new_by st by moment (record { id = id; tree = t } ∷ [])
    → all ≡ new ++ owed_in_session st (supply_of (used_in st) (id ∷ []) draw.name) moment new (launch_of st by) → with_new moment all ≡ effect_by st by moment draw (Put id t)
put_kept st by moment draw id t none new all empty pushed owed =
    let supply : Supply = supply_of (used_in st) (id ∷ []) draw.name in
    let is : new ≡ new_by st by moment (record { id = id; tree = t } ∷ []) =
    pushed ∙ ap (λ (xs : List StoredStatement). xs ++ new_by st by moment (record { id = id; tree = t } ∷ [])) empty in
    ap (λ (xs : List StoredStatement). with_new moment xs) (owed ∙ ap (λ (xs : List StoredStatement). xs ++ owed_in_session st supply moment xs (launch_of st by)) is)

abbrev with_told : ℕ → List StoredStatement → List (List ℕ) → Effect
with_told moment all ids = record (no_change moment) { statements = all; acceptance = acceptance.Ids ids }

-- the statements that came, as they were looked at in each step, and what was known of them
pub post_kept : (st : State) (by : Who) (moment : ℕ) (draw : Draw) (ts us ws : List Tree) (b : Batch) (named : List (List ℕ)) (new all : List StoredStatement) → us ≡ ts → ws ≡ ts → named ≡ b.ids → IsBatch st draw us b
    → new ≡ new_by st by moment (with_these_ids named ws) → all ≡ new ++ owed_in_session st (left_of (used_in st) b.supply) moment new (launch_of st by)
    → with_told moment all b.ids ≡ effect_by st by moment draw (Post ts)
post_kept st by moment draw ts us ws b named new all first second lent known brought owed =
    let supply : Supply = supply_in st (Post ts) draw in
    let batch : IsBatch st draw ts b = subst (λ (xs : List Tree). IsBatch st draw xs b) first known in
    let rest_is : left_of (used_in st) b.supply ≡ supply_after supply ts = supply_same (left_of (used_in st) b.supply) (supply_after supply ts) batch.left in
    let new_is : new ≡ new_by st by moment (with_ids supply ts) =
    brought
    ∙ (ap (λ (names : List (List ℕ)). new_by st by moment (with_these_ids names ws)) (lent ∙ batch.ids)
    ∙ (ap (λ (xs : List Tree). new_by st by moment (with_these_ids (ids_under (with_ids supply ts)) xs)) second
    ∙ ap (new_by st by moment) (with_ids_again supply ts))) in
    let all_is : all ≡ new_by st by moment (with_ids supply ts) ++ owed_in_session st (supply_after supply ts) moment (new_by st by moment (with_ids supply ts)) (launch_of st by) =
    owed
    ∙ (ap (λ (xs : List StoredStatement). xs ++ owed_in_session st (left_of (used_in st) b.supply) moment xs (launch_of st by)) new_is
    ∙ ap (λ (s : Supply). new_by st by moment (with_ids supply ts) ++ owed_in_session st s moment (new_by st by moment (with_ids supply ts)) (launch_of st by)) rest_is) in
    ap (λ (xs : List StoredStatement). with_told moment xs b.ids) all_is
    ∙ ap (λ (names : List (List ℕ)). with_told moment (new_by st by moment (with_ids supply ts) ++ owed_in_session st (supply_after supply ts) moment (new_by st by moment (with_ids supply ts)) (launch_of st by)) names) batch.ids
