-- From one batch to the next.
use Rattle.std.proofs.Common.{◌≡◌, ◌+◌, ◌<◌, ◌-◌, ℕ, suc, true, false, List, [], ◌∷◌, ◌++◌, map, Option, Some, None, Result, Ok, Err, IfErr, append-nil, append_assoc, arith, refl, sym, ap, ◌∙◌, subst, inl, inr, ⊎_elim}
use Rattle.std.specs.Prelude.{MatchResult}
use Rattle.lrs_disk.specs.Readings.{AddsReading}
use Rattle.lrs_disk.specs.declared.disk.Disk as disks
use Rattle.lrs_generator.specs.Generated.{batch, batch_count}
use Rattle.lrs_hall.specs.Draws.{Draws, draw_at, next_draws}
use Rattle.lrs_hall.specs.Serving.{AddsReadings}
use Rattle.lrs_hall.proofs.Lines.{begins_more, entries_begin, sure_begins}
use Rattle.lrs_hall.specs.LrsHistoryHistory.{Answer, state, with_entry}
use Rattle.lrs_json.specs.View.{view}
use Rattle.lrs_json.specs.declared.tree.Tree.{Tree}
use Rattle.lrs_hall.specs.LrsMachineActs.{Acts, Receipt}
use Rattle.lrs_hall.specs.LrsMachineDesk.{Desk, history}
use Rattle.lrs_hall.specs.LrsMachineLine.{Record, in_doubt}
use Rattle.lrs_hall.specs.LrsMachinePrefixesProofs.{stops_then}
use Rattle.lrs_hall.proofs.Conversing.{reads_none}
use Rattle.lrs_names.specs.declared.draw.Draw.{Draw}
use Rattle.lrs_record.specs.declared.entry.Entry.{Entry}
use Rattle.lrs_replies.specs.declared.answered.Answered.{Answered}
use Rattle.lrs_replies.specs.declared.answered.Answered.TheVariants as said
use Rattle.lrs_replies.specs.declared.answered.Refusal.TheVariants as refusal
use Rattle.lrs_replies.specs.declared.reply.Trouble.{Trouble}
use Rattle.lrs_replies.specs.declared.reply.Trouble.TheVariants as trouble
use Rattle.xapi_pages.specs.Listings.{listed_of_all}
use Rattle.lrs_app.specs.Load.{EndsLoad, GoesOnLoading, LoadsFrom, StopsLoading, post_answer}
use Rattle.lrs_app.specs.LoadSteps.{EndsBatch, EndsNext, EndsPosted, GoesOrStays, IsLoaded, IsOfBatch, LoadsSoFar, SaysOfBatch, TakesBatch, TakesNext}
use Rattle.lrs_app.specs.Steps.{Continues, HasPutCause, ending_of_trouble}
use Rattle.lrs_app.proofs.Opened.{answered_cause, doubtful_one, kept, trouble_cause, troubled_doubts, unchanged}
use Rattle.lrs_app.proofs.Openings.{alike_both}
use Rattle.lrs_console.specs.declared.ending.Ending.{Ending}
use Rattle.lrs_console.specs.declared.ending.Ending.TheVariants as ending

true_false : true ≡ false → ⊥
true_false e = cc

-- ---- what the store says to a batch

pub said_of : (s : Answered) (entry : Option Entry) → SaysOfBatch s entry → IsOfBatch s
said_of said.Kept entry says = tt
said_of said.Same entry says = tt
said_of (said.Shown text through) entry says = tt
said_of (said.Document media bytes) entry says = tt
said_of (said.Refused r) entry says = says.0

refused_stops : (h final : List Entry) (a : Answer) (end : Ending) (s : Answered) → a.said ≡ s → SaysOfBatch s a.entry → EndsLoad s end → final ≡ with_entry h a.entry → StopsLoading h a final end
refused_stops h final a end said.Kept is says ends same = absurd ends
refused_stops h final a end said.Same is says ends same = absurd ends
refused_stops h final a end (said.Shown text through) is says ends same = absurd ends
refused_stops h final a end (said.Document media bytes) is says ends same = absurd ends
refused_stops h final a end (said.Refused (refusal.Conflict held)) is says ends same =
    subst (λ (x : Ending). StopsLoading h a final x) (sym ends)
    (subst (λ (t : Answered). EndsLoad t (ending.Conflict held)) (sym is) refl, same ∙ ap (λ (o : Option Entry). with_entry h o) says.1)
refused_stops h final a end (said.Refused (refusal.Full need limit)) is says ends same =
    subst (λ (x : Ending). StopsLoading h a final x) (sym ends)
    (subst (λ (t : Answered). EndsLoad t (ending.Full need limit)) (sym is) refl, same ∙ ap (λ (o : Option Entry). with_entry h o) says.1)
refused_stops h final a end (said.Refused (refusal.Broken r)) is says ends same = absurd says.0
refused_stops h final a end (said.Refused refusal.TooLong) is says ends same = absurd says.0
refused_stops h final a end (said.Refused refusal.Unauthorized) is says ends same = absurd says.0
refused_stops h final a end (said.Refused (refusal.Forbidden r)) is says ends same = absurd says.0
refused_stops h final a end (said.Refused refusal.NotFound) is says ends same = absurd says.0

module _ {D : Type 0} (d : disks.Ghosts D) (a : Answer) (receipt : Receipt) (old new : Desk D) (settled : in_doubt old.line ≡ false)
    (was : receipt.was ≡ d.fault_count old.disk) (is : receipt.is ≡ d.fault_count new.disk) where
  -- a batch that met no trouble
  pub answered_batch : {U : Type 0} (s : Answered) (r : Result U Ending) → Acts a (Ok s) receipt old.line new.line → SaysOfBatch a.said a.entry
      → MatchResult r (λ _. GoesOnLoading s) (λ end. EndsLoad s end) → IfErr r (λ end. (count : ℕ) → HasPutCause count count end)
      → MatchResult r (λ _. TakesBatch d a old new) (λ end. EndsBatch d a old new end)
  answered_batch s (Ok u) acts known on same = record {
    said = subst (λ (x : Answered). GoesOnLoading x) acts.tells.0 on;
    final = kept a receipt old.line new.line settled acts.line acts.landed acts.tells.1;
    settled = acts.tells.2;
    count = sym is ∙ acts.cause ∙ was;
  }
  answered_batch s (Err end) acts known ends same = record {
    ends = refused_stops (history old) (history new) a end a.said refl known (subst (λ (x : Answered). EndsLoad x end) acts.tells.0 ends)
        (kept a receipt old.line new.line settled acts.line acts.landed acts.tells.1);
    doubts = λ doubt. absurd (true_false (sym doubt ∙ acts.tells.2));
    cause = answered_cause receipt s (d.fault_count old.disk) (d.fault_count new.disk) end was is acts.cause same;
  }

  trouble_stops : (t : Trouble) → Acts a (Err t) receipt old.line new.line → StopsLoading (history old) a (history new) (ending_of_trouble t)
  trouble_stops trouble.Memory acts = unchanged a receipt old.line new.line settled acts.line acts.landed acts.tells.0
  trouble_stops trouble.Disk acts =
      ⊎_elim (λ none. inl (unchanged a receipt old.line new.line settled acts.line acts.landed none.0))
      (λ some. inr (doubtful_one a receipt old.line new.line settled acts.line acts.landed receipt.point some.1 some.0)) acts.tells

  -- one that met trouble
  pub troubled_batch : (t : Trouble) → Acts a (Err t) receipt old.line new.line → EndsBatch d a old new (ending_of_trouble t)
  troubled_batch t acts = record {
    ends = trouble_stops t acts;
    doubts = troubled_doubts a receipt old new t acts settled;
    cause = trouble_cause receipt t (d.fault_count old.disk) (d.fault_count new.disk) was is acts.cause;
  }

pub known_said : (a : Answer) (receipt : Receipt) (old new : List Record) (s : Answered) → Acts a (Ok s) receipt old new → SaysOfBatch a.said a.entry → IsOfBatch s
known_said a receipt old new s acts known = subst (λ (x : Answered). IsOfBatch x) (sym acts.tells.0) (said_of a.said a.entry known)

-- ---- how many are left

pub from_first : (j left all : ℕ) → j ≡ 0 → left ≡ all → j + left ≡ all
from_first j left all first whole = omega (arith, first, whole)

pub in_front : (j left all : ℕ) → j + left ≡ all → 0 < left → j < all
in_front j left all whole some = omega (arith, whole, some)

pub one_less : (left : ℕ) → 0 < left → left ≡ suc (left - 1)
one_less left some = omega (arith, some)

pub one_more : (j k left all : ℕ) → j + left ≡ all → 0 < left → k ≡ j + 1 → k + (left - 1) ≡ all
one_more j k left all whole some is = omega (arith, whole, some, is)

-- ---- the next batch

-- a batch that was made, with its reading and its draw
pub posted_next : {D : Type 0} (d : disks.Ghosts D) {U : Type 0} (seed n j : ℕ) (old new : Desk D) (draws draws_now : Draws) (draw : Draw) (before now : Option (List ℕ)) (clock : ℕ) (trees : List Tree) (r : Result U Ending)
    → draw ≡ draw_at draws → draws_now ≡ next_draws draws → AddsReading before now clock → map view trees ≡ batch seed n j → Continues d old new
    → MatchResult r (λ _. TakesBatch d (post_answer old.limit (history old) clock draw trees) old new) (λ end. EndsBatch d (post_answer old.limit (history old) clock draw trees) old new end)
    → MatchResult r (λ _. TakesNext d seed n j old new draws draws_now before now) (λ end. EndsNext d seed n j old new draws before now end)
posted_next d seed n j old new draws draws_now draw before now clock trees (Ok u) drawn moved reads made goes takes = record {
  clock = clock;
  reads = reads;
  trees = trees;
  made = made;
  takes = subst (λ (w : Draw). TakesBatch d (post_answer old.limit (history old) clock w trees) old new) drawn takes;
  draws_on = moved;
  goes = goes;
}
posted_next d seed n j old new draws draws_now draw before now clock trees (Err end) drawn moved reads made goes stops = inr (record {
  clock = clock;
  reads = reads;
  trees = trees;
  made = made;
  stops = subst (λ (w : Draw). EndsBatch d (post_answer old.limit (history old) clock w trees) old new end) drawn stops;
  goes = goes;
})

-- the same of another name for the seed and the number
module _ {D : Type 0} (d : disks.Ghosts D) (s seed m n j : ℕ) (old new : Desk D) (draws : Draws) (before now : Option (List ℕ)) (seeds : s ≡ seed) (counts : m ≡ n) where
  pub next_takes : (draws_now : Draws) → TakesNext d s m j old new draws draws_now before now → TakesNext d seed n j old new draws draws_now before now
  next_takes draws_now takes = subst (λ (k : ℕ). TakesNext d seed k j old new draws draws_now before now) counts (subst (λ (x : ℕ). TakesNext d x m j old new draws draws_now before now) seeds takes)

  pub next_ends : (end : Ending) → EndsNext d s m j old new draws before now end → EndsNext d seed n j old new draws before now end
  next_ends end ends = subst (λ (k : ℕ). EndsNext d seed k j old new draws before now end) counts (subst (λ (x : ℕ). EndsNext d x m j old new draws before now end) seeds ends)

-- ---- the clock

reads_more : (x y z : Option (List ℕ)) (ks : List ℕ) (k : ℕ) → AddsReadings x y ks → AddsReading y z k → AddsReadings x z (ks ++ k ∷ [])
reads_more x y None ks k first more = tt
reads_more x None (Some c) ks k first more = absurd more
reads_more None (Some b) (Some c) ks k first more = absurd first
reads_more (Some a) (Some b) (Some c) ks k first more = more ∙ ap (λ (l : List ℕ). l ++ k ∷ []) first ∙ append_assoc a ks (k ∷ [])

-- ---- from one to the next

module _ {D : Type 0} (d : disks.Ghosts D) where
  goes_then : (old mid new : Desk D) → GoesOrStays d old mid → Continues d mid new → Continues d old new
  goes_then old mid new (inl same) second = subst (λ (x : Desk D). Continues d x new) same second
  goes_then old mid new (inr first) second =
      let early = first.later in
      let late = second.later in
      record {
        limit = second.limit ∙ first.limit;
        begins = begins_more old.line mid.line new.line first.begins second.begins;
        tells = alike_both (d.told old.disk) (d.told mid.disk) (d.told new.disk) first.tells second.tells;
        later = omega (arith, early, late);
        stops = stops_then d.told d.time d.image_since old mid new first.tells first.limit (entries_begin mid.line new.line second.begins) (sure_begins old.line mid.line first.begins)
            first.stops second.stops;
      }

  module _ (seed n : ℕ) (old : Desk D) (draws : Draws) (before : Option (List ℕ)) where
    -- before the first
    pub so_far_none : (j left : ℕ) → in_doubt old.line ≡ false → j ≡ 0 → left ≡ batch_count n → LoadsSoFar d seed n old old draws draws before before j left
    so_far_none j left settled first all = record {
      clocks = [];
      reads = reads_none before;
      leads = λ rest kept final end loads.
          subst (λ (k : ℕ). LoadsFrom old.limit seed n 0 draws k rest (history old) kept final end) all
          (subst (λ (i : ℕ). LoadsFrom old.limit seed n i draws left rest (history old) kept final end) first loads);
      limit = refl;
      settled = settled;
      goes = inl refl;
      count = refl;
    }

    module _ (mid : Desk D) (draws_mid : Draws) (between : Option (List ℕ)) (j left : ℕ) (so_far : LoadsSoFar d seed n old mid draws draws_mid before between j left) where
      -- a batch more was taken in
      pub so_far_next : (new : Desk D) (draws_now : Draws) (now : Option (List ℕ)) (k : ℕ) → left ≡ suc k → TakesNext d seed n j mid new draws_mid draws_now between now
          → LoadsSoFar d seed n old new draws draws_now before now (j + 1) k
      so_far_next new draws_now now k more takes =
          let here : TakesBatch d (post_answer old.limit (history mid) takes.clock (draw_at draws_mid) takes.trees) mid new =
          subst (λ (l : ℕ). TakesBatch d (post_answer l (history mid) takes.clock (draw_at draws_mid) takes.trees) mid new) so_far.limit takes.takes in
          record {
            clocks = so_far.clocks ++ takes.clock ∷ [];
            reads = reads_more before between now so_far.clocks takes.clock so_far.reads takes.reads;
            leads = λ rest kept final end loads.
                let drawn : LoadsFrom old.limit seed n (j + 1) (next_draws draws_mid) k rest (history new) kept final end =
                subst (λ (w : Draws). LoadsFrom old.limit seed n (j + 1) w k rest (history new) kept final end) takes.draws_on loads in
                let behind : LoadsFrom old.limit seed n (j + 1) (next_draws draws_mid) k rest
                (with_entry (history mid) (post_answer old.limit (history mid) takes.clock (draw_at draws_mid) takes.trees).entry) kept final end =
                subst (λ (h : List Entry). LoadsFrom old.limit seed n (j + 1) (next_draws draws_mid) k rest h kept final end) here.final drawn in
                let one : LoadsFrom old.limit seed n j draws_mid (suc k) (takes.clock ∷ rest) (history mid) kept final end = (takes.trees, takes.made, inl (here.said, behind)) in
                subst (λ (ks : List ℕ). LoadsFrom old.limit seed n 0 draws (batch_count n) ks (history old) kept final end) (sym (append_assoc so_far.clocks (takes.clock ∷ []) rest))
                (so_far.leads (takes.clock ∷ rest) kept final end
                (subst (λ (m : ℕ). LoadsFrom old.limit seed n j draws_mid m (takes.clock ∷ rest) (history mid) kept final end) (sym more) one));
            limit = takes.goes.limit ∙ so_far.limit;
            settled = here.settled;
            goes = inr (goes_then old mid new so_far.goes takes.goes);
            count = here.count ∙ so_far.count;
          }

      -- there was no memory for the next one
      unmade_ends : (k : ℕ) → left ≡ suc k → IsLoaded d seed n old mid draws before between ending.Memory
      unmade_ends k more = record {
        clocks = so_far.clocks ++ [];
        reads = subst (λ (ks : List ℕ). AddsReadings before between ks) (sym (append-nil so_far.clocks)) so_far.reads;
        kept = history mid;
        ends = so_far.leads [] (history mid) (history mid) ending.Memory
            (subst (λ (m : ℕ). LoadsFrom old.limit seed n j draws_mid m [] (history mid) (history mid) (history mid) ending.Memory) (sym more) (refl, refl, refl));
        lost = λ doubt. absurd (true_false (sym doubt ∙ so_far.settled));
        goes = so_far.goes;
        cause = so_far.count;
      }

      posted_ends : (new : Desk D) (now : Option (List ℕ)) (end : Ending) (k : ℕ) → left ≡ suc k → EndsPosted d seed n j mid new draws_mid between now end → IsLoaded d seed n old new draws before now end
      posted_ends new now end k more posted =
          let stops : EndsBatch d (post_answer old.limit (history mid) posted.clock (draw_at draws_mid) posted.trees) mid new end =
          subst (λ (l : ℕ). EndsBatch d (post_answer l (history mid) posted.clock (draw_at draws_mid) posted.trees) mid new end) so_far.limit posted.stops in
          let one : LoadsFrom old.limit seed n j draws_mid (suc k) (posted.clock ∷ []) (history mid) (history mid) (history new) end =
          (posted.trees, posted.made, inr (refl, refl, stops.ends)) in
          record {
            clocks = so_far.clocks ++ posted.clock ∷ [];
            reads = reads_more before between now so_far.clocks posted.clock so_far.reads posted.reads;
            kept = history mid;
            ends = so_far.leads (posted.clock ∷ []) (history mid) (history new) end
                (subst (λ (m : ℕ). LoadsFrom old.limit seed n j draws_mid m (posted.clock ∷ []) (history mid) (history mid) (history new) end) (sym more) one);
            lost = stops.doubts;
            goes = inr (goes_then old mid new so_far.goes posted.goes);
            cause = subst (λ (c : ℕ). HasPutCause c (d.fault_count new.disk) end) so_far.count stops.cause;
          }

      -- the loading ends at the next one
      pub so_far_ends : (new : Desk D) (now : Option (List ℕ)) (end : Ending) (k : ℕ) → left ≡ suc k → EndsNext d seed n j mid new draws_mid between now end → IsLoaded d seed n old new draws before now end
      so_far_ends new now end k more (inl unmade) =
          subst (λ (x : Ending). IsLoaded d seed n old new draws before now x) (sym unmade.ended)
          (subst (λ (r : Option (List ℕ)). IsLoaded d seed n old new draws before r ending.Memory) (sym unmade.reads)
          (subst (λ (x : Desk D). IsLoaded d seed n old x draws before between ending.Memory) (sym unmade.same) (unmade_ends k more)))
      so_far_ends new now end k more (inr posted) = posted_ends new now end k more posted

      -- none is left
      pub so_far_all : (listed : ℕ) → left ≡ 0 → listed ≡ listed_of_all (state (history mid)).statements → IsLoaded d seed n old mid draws before between (ending.Loaded n listed)
      so_far_all listed none count = record {
        clocks = so_far.clocks ++ [];
        reads = subst (λ (ks : List ℕ). AddsReadings before between ks) (sym (append-nil so_far.clocks)) so_far.reads;
        kept = history mid;
        ends = so_far.leads [] (history mid) (history mid) (ending.Loaded n listed)
            (subst (λ (m : ℕ). LoadsFrom old.limit seed n j draws_mid m [] (history mid) (history mid) (history mid) (ending.Loaded n listed)) (sym none)
            (refl, refl, ap (λ (l : ℕ). ending.Loaded n l) count));
        lost = λ doubt. absurd (true_false (sym doubt ∙ so_far.settled));
        goes = so_far.goes;
        cause = so_far.count;
      }
