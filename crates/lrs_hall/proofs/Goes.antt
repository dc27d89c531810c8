-- A conversation goes on.
use Rattle.std.proofs.Common.{◌≡◌, ◌-◌, ℕ, List, [], ◌∷◌, ◌++◌, Option, Some, None, option_map, subst, sym, ◌∙◌, ap, refl, append_assoc, append-nil}
use Rattle.lrs_http.specs.Links.{stream_left}
use Rattle.lrs_machine.specs.Acts.{Receipt}
use Rattle.lrs_hall.specs.declared.exchange.Exchanged.{Exchanged}
use Rattle.lrs_hall.specs.declared.exchange.Exchanged.TheVariants.{Next, Last}
use Rattle.lrs_hall.specs.declared.talk.Finish.{Finish}
use Rattle.lrs_hall.specs.Acts.{ActsOn, SeenAndClock, limit_in}
use Rattle.lrs_hall.specs.Conversation.{ActOn, Worker, going, ended_with, Converses, EndsOpen}
use Rattle.lrs_hall.specs.Serving.{IsWholeTalk}
use Rattle.lrs_hall.specs.Steps.{Exchanges}
use Rattle.lrs_hall.specs.Talks.{Talk}
use Rattle.lrs_http.specs.declared.reading.TheConstants.{MOST_REQUESTS}
use Rattle.lrs_http.proofs.SendLemmas.{nothing_more}

-- What was said so far, so that what follows makes a whole conversation.
pub record SoFar {X : Type 0} (acts : ActOn X) (start : Worker X) (stream before : Option (List ℕ)) (most : ℕ) (left : Option (List ℕ)) (receipts : List Receipt) (taken : Option (List ℕ)) (now : Worker X) : Type 0 where
  pub out : List ℕ
  pub sent : taken ≡ option_map (λ bytes. bytes ++ out) before
  pub goes : (more : List Receipt) (rest : List ℕ) (f : Finish) (end : Worker X)
      → Converses acts (going most left) more rest f now end → Converses acts (going MOST_REQUESTS stream) (receipts ++ more) (out ++ rest) f start end

-- a whole conversation, and what the link took of it
abbrev pub IsHeld : {X : Type 0} → ActOn X → Worker X → Option (List ℕ) → Option (List ℕ) → Talk → Option (List ℕ) → Worker X → Type 0
IsHeld acts start stream before talk taken end = (out : List ℕ) × (taken ≡ option_map (λ bytes. bytes ++ out) before) × IsWholeTalk acts stream talk out start end

pub map_more : (before : Option (List ℕ)) (a b : List ℕ) → option_map (λ bytes. bytes ++ b) (option_map (λ bytes. bytes ++ a) before) ≡ option_map (λ bytes. bytes ++ (a ++ b)) before
map_more None a b = refl
map_more (Some bytes) a b = ap Some (append_assoc bytes a b)

pub nothing_kept : (left : Option (List ℕ)) → stream_left [] left ≡ left
nothing_kept None = refl
nothing_kept (Some bytes) = refl

pub so_far_none : {X : Type 0} (acts : ActOn X) (start : Worker X) (stream before : Option (List ℕ)) → SoFar acts start stream before MOST_REQUESTS (stream_left [] stream) [] before start
so_far_none acts start stream before = record {
  out = [];
  sent = nothing_more before;
  goes = λ more rest f end talks. subst (λ left. Converses acts (going MOST_REQUESTS left) more rest f start end) (nothing_kept stream) talks;
}

-- before the first request nothing was read and nothing answered
pub so_far_begun : {X : Type 0} (acts : ActOn X) (start : Worker X) (stream before : Option (List ℕ)) (kept : List ℕ) (receipts : List Receipt) → kept ≡ [] → receipts ≡ []
    → SoFar acts start stream before MOST_REQUESTS (stream_left kept stream) receipts before start
so_far_begun acts start stream before kept receipts none empty =
    subst (λ (rs : List Receipt). SoFar acts start stream before MOST_REQUESTS (stream_left kept stream) rs before start) (sym empty)
    (subst (λ (bytes : List ℕ). SoFar acts start stream before MOST_REQUESTS (stream_left bytes stream) [] before start) (sym none) (so_far_none acts start stream before))

-- the limit stays
pub exchanges_same : (most : ℕ) (left after taken took : Option (List ℕ)) (old new : Worker SeenAndClock) (exchanged : Exchanged) (marks later : List ℕ) → later ≡ marks
    → Exchanges (ActsOn (limit_in later)) most left after taken took old new exchanged → Exchanges (ActsOn (limit_in marks)) most left after taken took old new exchanged
exchanges_same most left after taken took old new exchanged marks later same turn =
    subst (λ (ms : List ℕ). Exchanges (ActsOn (limit_in ms)) most left after taken took old new exchanged) same turn

pub so_far_next : {X : Type 0} (acts : ActOn X) (start now new : Worker X) (stream before left after taken took : Option (List ℕ)) (most : ℕ) (receipts : List Receipt) (receipt : Receipt)
    → SoFar acts start stream before most left receipts taken now → Exchanges acts most left after taken took now new (Next receipt)
    → SoFar acts start stream before (most - 1) after (receipts ++ receipt ∷ []) took new
so_far_next acts start now new stream before left after taken took most receipts receipt so turn = record {
  out = so.out ++ turn.0;
  sent = turn.2 ∙ ap (option_map (λ bytes. bytes ++ turn.0)) so.sent ∙ map_more before so.out turn.0;
  goes = λ more rest f end talks.
      subst (λ rs. Converses acts (going MOST_REQUESTS stream) rs ((so.out ++ turn.0) ++ rest) f start end) (sym (append_assoc receipts (receipt ∷ []) more))
      (subst (λ o. Converses acts (going MOST_REQUESTS stream) (receipts ++ receipt ∷ more) o f start end) (sym (append_assoc so.out turn.0 rest))
      (so.goes (receipt ∷ more) (turn.0 ++ rest) f end (turn.0, rest, going (most - 1) after, new, refl, turn.1, talks)));
}

pub held_last : {X : Type 0} (acts : ActOn X) (start now new : Worker X) (stream before left after taken took : Option (List ℕ)) (most : ℕ) (receipts : List Receipt) (receipt : Receipt) (f : Finish) (talk : Talk)
    → SoFar acts start stream before most left receipts taken now → Exchanges acts most left after taken took now new (Last receipt f)
    → talk.receipts ≡ receipts ++ receipt ∷ [] → talk.finish ≡ f → IsHeld acts start stream before talk took new
held_last acts start now new stream before left after taken took most receipts receipt f talk so turn told ends = (
  so.out ++ (turn.0 ++ []),
  turn.2 ∙ ap (λ o. option_map (λ bytes. bytes ++ o) taken) (sym (append-nil turn.0)) ∙ ap (option_map (λ bytes. bytes ++ (turn.0 ++ []))) so.sent ∙ map_more before so.out (turn.0 ++ []),
  subst (λ rs. Converses acts (going MOST_REQUESTS stream) rs (so.out ++ (turn.0 ++ [])) talk.finish start new) (sym told)
      (subst (λ g. Converses acts (going MOST_REQUESTS stream) (receipts ++ receipt ∷ []) (so.out ++ (turn.0 ++ [])) g start new) (sym ends)
      (so.goes (receipt ∷ []) (turn.0 ++ []) f new (turn.0, [], ended_with f, new, refl, turn.1, (refl, refl, refl)))),
)

pub held_silent : {X : Type 0} (acts : ActOn X) (start now new : Worker X) (stream before left taken took : Option (List ℕ)) (most : ℕ) (receipts : List Receipt) (f : Finish) (talk : Talk)
    → SoFar acts start stream before most left receipts taken now → EndsOpen left f → new ≡ now → took ≡ taken
    → talk.receipts ≡ receipts → talk.finish ≡ f → IsHeld acts start stream before talk took new
held_silent acts start now new stream before left taken took most receipts f talk so ends same_now same told is = (
  so.out ++ [],
  same ∙ so.sent ∙ ap (λ o. option_map (λ bytes. bytes ++ o) before) (sym (append-nil so.out)),
  subst (λ rs. Converses acts (going MOST_REQUESTS stream) rs (so.out ++ []) talk.finish start new) (append-nil receipts ∙ sym told)
      (subst (λ g. Converses acts (going MOST_REQUESTS stream) (receipts ++ []) (so.out ++ []) g start new) (sym is)
      (so.goes [] [] f new (refl, ends, same_now))),
)

pub so_far_pushed : {X : Type 0} (acts : ActOn X) (start now : Worker X) (stream before left took : Option (List ℕ)) (most : ℕ) (receipts : List Receipt) (receipt : Receipt) (all : List Receipt)
    → SoFar acts start stream before most left (receipts ++ receipt ∷ []) took now → all ≡ receipts ++ receipt ∷ [] → SoFar acts start stream before most left all took now
so_far_pushed acts start now stream before left took most receipts receipt all so is = subst (λ rs. SoFar acts start stream before most left rs took now) (sym is) so
