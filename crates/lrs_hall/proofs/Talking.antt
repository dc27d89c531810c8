-- What is true of each act is true of a whole conversation, and of all talks of a worker.
use Rattle.std.proofs.Common.{◌≡◌, ◌⊎◌, ℕ, List, [], ◌∷◌, ◌++◌, Bool, Option, Some, None, Result, Ok, Err, subst, sym, ap, refl, inl, inr, append-nil}
use Rattle.lrs_disk.specs.Door.{Returned}
use Rattle.lrs_http.specs.declared.request.Request.{Request}
use Rattle.lrs_http.specs.declared.request.RequestRefused.{RequestRefused}
use Rattle.lrs_machine.specs.Acts.{Receipt, plain_receipt}
use Rattle.lrs_replies.specs.declared.reply.Reply.{Reply}
use Rattle.lrs_names.specs.declared.draw.Draw.{Draw}
use Rattle.lrs_record.specs.declared.entry.Caller.{Caller}
use Rattle.lrs_command.specs.declared.command.Command.{Command}
use Rattle.lrs_routes.specs.declared.asked.Asked.{Asked}
use Rattle.lrs_routes.specs.declared.asked.RouteRefused.{RouteRefused}
use Rattle.lrs_hall.specs.declared.talk.Finish.{Finish}
use Rattle.lrs_hall.specs.Conversation.{ActOn, Worker, Phase, going, ended_with, ServesAsked, ServesRequest, closes_after, with_command, RespondsIn, Converses}
use Rattle.lrs_hall.specs.Draws.{draw_at}
use Rattle.lrs_hall.specs.Responses.{FixedResponse, IsFraming, framing_response, route_response}
use Rattle.lrs_hall.specs.Serving.{AreOnLinks, all_receipts}
use Rattle.lrs_hall.specs.Talks.{Talk}
use Rattle.lrs_hall.proofs.Unread.{any_command}
use Rattle.lrs_http.specs.declared.reading.TheConstants.{MOST_REQUESTS}

-- ---- one response: an act, or none

module _ {X : Type 0} (acts : ActOn X) where
  abbrev pub ActsOnce : Receipt → Worker X → Worker X → Type 0
  ActsOnce receipt old new =
      ((caller : Caller) × (command : Command) × (draw : Draw) × (reply : Reply) × acts caller command draw reply receipt old.reached new.reached)
      ⊎ ((status : ℕ) × (receipt ≡ plain_receipt status) × (new ≡ old))

  once_served : (closes : Bool) (asked : Result Asked RouteRefused) (receipt : Receipt) (text : List ℕ) (old new : Worker X)
      → ServesAsked acts closes asked receipt text old new → ActsOnce receipt old new
  once_served closes (Ok asked) receipt text old new serves = inl (asked.caller, asked.command, draw_at old.draws, serves.0, serves.1)
  once_served closes (Err refusal) receipt text old new serves = inr ((route_response refusal).status, serves.0.0, serves.1)

  once_framed : (f : Option FixedResponse) (receipt : Receipt) (text : List ℕ) (old new : Worker X) → IsFraming f receipt text → new ≡ old → ActsOnce receipt old new
  once_framed None receipt text old new framing same = absurd framing
  once_framed (Some f) receipt text old new framing same = inr (f.status, framing.0, same)

  once_answered : (closes : Bool) (heard : Result Request RequestRefused) (receipt : Receipt) (text : List ℕ) (old new : Worker X)
      → ServesRequest acts closes heard receipt text old new → ActsOnce receipt old new
  once_answered closes (Ok request) receipt text old new (inl answers) = once_served closes answers.0 receipt text old new answers.2
  once_answered closes (Ok request) receipt text old new (inr unread) =
      once_served closes (Ok (with_command unread.0 (any_command unread.0))) receipt text old new (unread.2 (any_command unread.0) refl)
  once_answered closes (Err refusal) receipt text old new answers = once_framed (framing_response refusal) receipt text old new answers.0 answers.1

  once : (phase : Phase) (receipt : Receipt) (front : List ℕ) (old new : Worker X) (behind : Phase) → RespondsIn acts phase receipt front old new behind → ActsOnce receipt old new
  once (going most stream) receipt front old new behind responds =
      once_answered (closes_after most responds.heard) responds.heard receipt responds.text old new responds.answered
  once (ended_with f) receipt front old new behind responds = absurd responds

-- ---- from one act to the next

-- P is true of no response, goes on over a response without an act, and over an act.
pub record Carries {X : Type 0} (acts : ActOn X) (P : List Receipt → X → X → Type 0) : Type 0 where
  pub none : (x : X) → P [] x x
  pub plain : (status : ℕ) (receipt : Receipt) (receipts : List Receipt) (old new : X) → receipt ≡ plain_receipt status → P receipts old new → P (receipt ∷ receipts) old new
  pub act : (caller : Caller) (command : Command) (draw : Draw) (reply : Reply) (receipt : Receipt) (receipts : List Receipt) (old mid new : X)
      → acts caller command draw reply receipt old mid → P receipts mid new → P (receipt ∷ receipts) old new

module _ {X : Type 0} (acts : ActOn X) (P : List Receipt → X → X → Type 0) (carries : Carries acts P) where
  carried_once : (receipt : Receipt) (receipts : List Receipt) (old mid new : Worker X) → ActsOnce acts receipt old mid → P receipts mid.reached new.reached → P (receipt ∷ receipts) old.reached new.reached
  carried_once receipt receipts old mid new (inl act) more = carries.act act.0 act.1 act.2 act.3 receipt receipts old.reached mid.reached new.reached act.4 more
  carried_once receipt receipts old mid new (inr none) more =
      carries.plain none.0 receipt receipts old.reached new.reached none.1 (subst (λ (w : Worker X). P receipts w.reached new.reached) none.2 more)

  pub over_talk : (phase : Phase) (receipts later : List Receipt) (out : List ℕ) (f : Finish) (old mid new : Worker X)
      → Converses acts phase receipts out f old mid → P later mid.reached new.reached → P (receipts ++ later) old.reached new.reached
  over_talk phase [] later out f old mid new talks more = subst (λ (w : Worker X). P later w.reached new.reached) talks.2 more
  over_talk phase (receipt ∷ receipts) later out f old mid new talks more =
      carried_once receipt (receipts ++ later) old talks.3 new (once acts phase receipt talks.0 old talks.3 talks.2 talks.5)
      (over_talk talks.2 receipts later talks.1 f talks.3 mid new talks.6 more)

  pub over_whole : (phase : Phase) (receipts : List Receipt) (out : List ℕ) (f : Finish) (old new : Worker X)
      → Converses acts phase receipts out f old new → P receipts old.reached new.reached
  over_whole phase receipts out f old new talks =
      subst (λ (l : List Receipt). P l old.reached new.reached) (append-nil receipts) (over_talk phase receipts [] out f old new new talks (carries.none new.reached))

  pub over_all : (talks : List Talk) (links : List Returned) (old new : Worker X) → AreOnLinks acts talks links old new → P (all_receipts talks) old.reached new.reached
  over_all [] [] old new is = subst (λ (w : Worker X). P [] old.reached w.reached) (sym is) (carries.none old.reached)
  over_all [] (link ∷ links) old new is = absurd is
  over_all (talk ∷ talks) [] old new is = absurd is
  over_all (talk ∷ talks) (link ∷ links) old new is =
      over_talk (going MOST_REQUESTS link.stream) talk.receipts (all_receipts talks) is.1.out talk.finish old is.0 new is.1.talks (over_all talks links is.0 new is.2)

-- ---- other acts

-- Acts on X are acts on what f sees of it, where P held of it before them, and Q holds of it after them: P goes on to
-- later ones, and Q held at earlier ones.
module _ {X Y : Type 0} (f : X → Y) (own : ActOn X) (acts : ActOn Y) (P Q : X → Type 0)
    (forth : (caller : Caller) (command : Command) (draw : Draw) (reply : Reply) (receipt : Receipt) (old new : X) → own caller command draw reply receipt old new → P old → P new)
    (back : (caller : Caller) (command : Command) (draw : Draw) (reply : Reply) (receipt : Receipt) (old new : X) → own caller command draw reply receipt old new → Q new → Q old)
    (seen : (caller : Caller) (command : Command) (draw : Draw) (reply : Reply) (receipt : Receipt) (old new : X) → own caller command draw reply receipt old new → P old → Q new → acts caller command draw reply receipt (f old) (f new)) where
  abbrev pub at : Worker X → Worker Y
  at w = record { draws = w.draws; reached = f w.reached }

  serves_seen : (closes : Bool) (asked : Result Asked RouteRefused) (receipt : Receipt) (text : List ℕ) (old new : Worker X) → P old.reached → Q new.reached
      → ServesAsked own closes asked receipt text old new → ServesAsked acts closes asked receipt text (at old) (at new)
  serves_seen closes (Ok asked) receipt text old new p q serves =
      (serves.0, seen asked.caller asked.command (draw_at old.draws) serves.0 receipt old.reached new.reached serves.1 p q, serves.2, serves.3)
  serves_seen closes (Err refusal) receipt text old new p q serves = (serves.0, ap at serves.1)

  answers_seen : (closes : Bool) (heard : Result Request RequestRefused) (receipt : Receipt) (text : List ℕ) (old new : Worker X) → P old.reached → Q new.reached
      → ServesRequest own closes heard receipt text old new → ServesRequest acts closes heard receipt text (at old) (at new)
  answers_seen closes (Ok request) receipt text old new p q (inl answers) = inl (answers.0, answers.1, serves_seen closes answers.0 receipt text old new p q answers.2)
  answers_seen closes (Ok request) receipt text old new p q (inr unread) =
      inr (unread.0, unread.1, λ c of. serves_seen closes (Ok (with_command unread.0 c)) receipt text old new p q (unread.2 c of))
  answers_seen closes (Err refusal) receipt text old new p q answers = (answers.0, ap at answers.1)

  responds_seen : (phase : Phase) (receipt : Receipt) (front : List ℕ) (old new : Worker X) (behind : Phase) → P old.reached → Q new.reached
      → RespondsIn own phase receipt front old new behind → RespondsIn acts phase receipt front (at old) (at new) behind
  responds_seen (going most stream) receipt front old new behind p q responds = record {
    heard = responds.heard;
    after = responds.after;
    next = responds.next;
    text = responds.text;
    answered = answers_seen (closes_after most responds.heard) responds.heard receipt responds.text old new p q responds.answered;
    sent = responds.sent;
  }
  responds_seen (ended_with g) receipt front old new behind p q responds = absurd responds

  back_once : (receipt : Receipt) (old new : Worker X) → ActsOnce own receipt old new → Q new.reached → Q old.reached
  back_once receipt old new (inl act) q = back act.0 act.1 act.2 act.3 receipt old.reached new.reached act.4 q
  back_once receipt old new (inr none) q = subst (λ (w : Worker X). Q w.reached) none.2 q

  forth_once : (receipt : Receipt) (old new : Worker X) → ActsOnce own receipt old new → P old.reached → P new.reached
  forth_once receipt old new (inl act) p = forth act.0 act.1 act.2 act.3 receipt old.reached new.reached act.4 p
  forth_once receipt old new (inr none) p = subst (λ (w : Worker X). P w.reached) (sym none.2) p

  back_talk : (phase : Phase) (receipts : List Receipt) (out : List ℕ) (g : Finish) (old new : Worker X) → Converses own phase receipts out g old new → Q new.reached → Q old.reached
  back_talk phase [] out g old new talks q = subst (λ (w : Worker X). Q w.reached) talks.2 q
  back_talk phase (receipt ∷ receipts) out g old new talks q =
      back_once receipt old talks.3 (once own phase receipt talks.0 old talks.3 talks.2 talks.5) (back_talk talks.2 receipts talks.1 g talks.3 new talks.6 q)

  forth_talk : (phase : Phase) (receipts : List Receipt) (out : List ℕ) (g : Finish) (old new : Worker X) → Converses own phase receipts out g old new → P old.reached → P new.reached
  forth_talk phase [] out g old new talks p = subst (λ (w : Worker X). P w.reached) (sym talks.2) p
  forth_talk phase (receipt ∷ receipts) out g old new talks p =
      forth_talk talks.2 receipts talks.1 g talks.3 new talks.6 (forth_once receipt old talks.3 (once own phase receipt talks.0 old talks.3 talks.2 talks.5) p)

  pub talk_seen : (phase : Phase) (receipts : List Receipt) (out : List ℕ) (g : Finish) (old new : Worker X) → P old.reached → Q new.reached
      → Converses own phase receipts out g old new → Converses acts phase receipts out g (at old) (at new)
  talk_seen phase [] out g old new p q talks = (talks.0, talks.1, ap at talks.2)
  talk_seen phase (receipt ∷ receipts) out g old new p q talks =
      let mid = back_talk talks.2 receipts talks.1 g talks.3 new talks.6 q in
      let on = forth_once receipt old talks.3 (once own phase receipt talks.0 old talks.3 talks.2 talks.5) p in (
        talks.0,
        talks.1,
        talks.2,
        at talks.3,
        talks.4,
        responds_seen phase receipt talks.0 old talks.3 talks.2 p mid talks.5,
        talk_seen talks.2 receipts talks.1 g talks.3 new on q talks.6,
      )

  back_all : (talks : List Talk) (links : List Returned) (old new : Worker X) → AreOnLinks own talks links old new → Q new.reached → Q old.reached
  back_all [] [] old new is q = subst (λ (w : Worker X). Q w.reached) is q
  back_all [] (link ∷ links) old new is q = absurd is
  back_all (talk ∷ talks) [] old new is q = absurd is
  back_all (talk ∷ talks) (link ∷ links) old new is q =
      back_talk (going MOST_REQUESTS link.stream) talk.receipts is.1.out talk.finish old is.0 is.1.talks (back_all talks links is.0 new is.2 q)

  pub all_seen : (talks : List Talk) (links : List Returned) (old new : Worker X) → P old.reached → Q new.reached → AreOnLinks own talks links old new → AreOnLinks acts talks links (at old) (at new)
  all_seen [] [] old new p q is = ap at is
  all_seen [] (link ∷ links) old new p q is = absurd is
  all_seen (talk ∷ talks) [] old new p q is = absurd is
  all_seen (talk ∷ talks) (link ∷ links) old new p q is =
      let mid = back_all talks links is.0 new is.2 q in
      let on = forth_talk (going MOST_REQUESTS link.stream) talk.receipts is.1.out talk.finish old is.0 is.1.talks p in (
        at is.0,
        record {
          out = is.1.out;
          taken = is.1.taken;
          talks = talk_seen (going MOST_REQUESTS link.stream) talk.receipts is.1.out talk.finish old is.0 p mid is.1.talks;
          rose = is.1.rose;
        },
        all_seen talks links is.0 new on q is.2,
      )
