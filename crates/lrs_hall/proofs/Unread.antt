-- Requests that are answered unread: the answer is that of each command of the area, and of the request's own.
use Rattle.std.proofs.Common.{◌≡◌, ℕ, List, Bool, true, false, Option, Some, None, Ok, refl, sym, ap, ◌∙◌, subst, inl, inr}
use Rattle.std.specs.Prelude.{is_none}
use Rattle.lrs_record.specs.declared.entry.Area.{Area}
use Rattle.lrs_command.specs.declared.command.Command.{Command}
use Rattle.lrs_command.specs.declared.command.Command.TheVariants as command
use Rattle.lrs_rules.specs.declared.rule.Rule.TheVariants as rule
use Rattle.lrs_machine.specs.LrsHistoryStrangersProofs.{told_barred}
use Rattle.lrs_machine.specs.LrsHistoryHistory.{Answer, answer, state}
use Rattle.lrs_machine.specs.LrsHistoryRefusals.{barred}
use Rattle.lrs_command.specs.Areas.{command_area}
use Rattle.lrs_machine.specs.LrsHistoryWhose.{who_is}
use Rattle.lrs_http.specs.declared.request.Request.{Request}
use Rattle.lrs_machine.specs.Acts.{Acts, Receipt}
use Rattle.lrs_machine.specs.Line.{Record, entries}
use Rattle.lrs_machine.specs.Desk.{lets_in}
use Rattle.lrs_names.specs.declared.draw.Draw.{Draw}
use Rattle.lrs_record.specs.declared.entry.Caller.{Caller}
use Rattle.lrs_record.specs.declared.entry.Entry.{Entry}
use Rattle.lrs_replies.specs.declared.answered.Refusal.{Refusal}
use Rattle.lrs_replies.specs.declared.reply.Reply.{Reply}
use Rattle.lrs_routes.proofs.Alone.{asked_routed, routed_asks}
use Rattle.lrs_routes.proofs.Areas.{goes_there}
use Rattle.lrs_routes.specs.Asked.{IsAsked, IsCommandOf, IsRoutedAs}
use Rattle.lrs_routes.specs.declared.asked.Asked.{Asked}
use Rattle.lrs_routes.specs.declared.asked.Routed.{Routed}
use Rattle.lrs_hall.specs.Acts.{ActsAt, ActsOn, Seen, SeenAndClock}
use Rattle.lrs_hall.specs.Conversation.{ActOn, AnswersTo, ServesAsked, ServesRequest, Worker, with_command}
use Rattle.lrs_hall.specs.Draws.{draw_at, next_draws}
use Rattle.lrs_hall.specs.Responses.{IsReplyText}

-- ---- a command of the area

-- a command of the route's area
abbrev pub any_command : Routed → Command
any_command routed = command.Refused routed.area 400 (rule.B 1)

-- ---- the answer

shut : (o : Option Refusal) → is_none o ≡ false → (r : Refusal) × (o ≡ Some r)
shut None e = absurd (no e)
  where
    no : true ≡ false → ⊥
    no e = cc
shut (Some r) e = (r, refl)

told_alike : (limit : ℕ) (h : List Entry) (caller : Caller) (area : Area) (c d : Command) (clock : ℕ) (draw : Draw) → lets_in h caller area ≡ false
    → command_area c ≡ area → command_area d ≡ area → answer limit h caller c clock draw ≡ answer limit h caller d clock draw
told_alike limit h caller area c d clock draw out of_c of_d =
    let r = shut (barred area (who_is (state h) caller)) out in
    told_barred limit h caller c clock draw r.0 (ap (λ a. barred a (who_is (state h) caller)) of_c ∙ r.1)
    ∙ sym (told_barred limit h caller d clock draw r.0 (ap (λ a. barred a (who_is (state h) caller)) of_d ∙ r.1))

-- an act with a command of the area where the caller isn't let in is one with each other
pub acts_alike : (line : List Record) (limit : ℕ) (caller : Caller) (area : Area) (c d : Command) (draw : Draw) (reply : Reply) (receipt : Receipt) (old new : Seen)
    → lets_in (entries line) caller area ≡ false → command_area c ≡ area → command_area d ≡ area
    → ActsAt line limit caller c draw reply receipt old new → ActsAt line limit caller d draw reply receipt old new
acts_alike line limit caller area c d draw reply receipt old new out of_c of_d x = record {
  goes_on = x.goes_on;
  since = x.since;
  status = x.status;
  said = x.said;
  says = x.says;
  acts = subst (λ (a : Answer). Acts a x.said receipt line new.front) (told_alike limit (entries line) caller area c d receipt.clock draw out of_c of_d) x.acts;
  own = x.own;
  tide = x.tide;
}

-- ---- one response

module _ (limit : ℕ) (closes : Bool) (request : Request) (receipt : Receipt) (text : List ℕ) (old new : Worker SeenAndClock) where
  -- a request that is read is answered as what it asks
  pub serves_read : (routed : Routed) (command : Command) (reply : Reply) → IsRoutedAs request routed → IsCommandOf request routed command
      → ActsOn limit routed.caller command (draw_at old.draws) reply receipt old.reached new.reached → new.draws ≡ next_draws old.draws → IsReplyText reply closes text
      → ServesRequest (ActsOn limit) closes (Ok request) receipt text old new
  serves_read routed command reply h is acts draws said = inl (Ok (with_command routed command), routed_asks request routed command h is, (reply, acts, draws, said))

  -- one that isn't as each of its area
  pub serves_unread : (routed : Routed) (reply : Reply) → IsRoutedAs request routed
      → ((command : Command) → command_area command ≡ routed.area → ActsOn limit routed.caller command (draw_at old.draws) reply receipt old.reached new.reached)
      → new.draws ≡ next_draws old.draws → IsReplyText reply closes text → ServesRequest (ActsOn limit) closes (Ok request) receipt text old new
  serves_unread routed reply h acts draws said = inr (routed, h, λ command of. (reply, acts command of, draws, said))

-- ---- as what is asked

-- where a request asks something, it is answered as that
pub as_asked : {X : Type 0} (acts : ActOn X) (closes : Bool) (request : Request) (asked : Asked) (receipt : Receipt) (text : List ℕ) (old new : Worker X)
    → IsAsked request (Ok asked) → ServesRequest acts closes (Ok request) receipt text old new → AnswersTo acts closes request receipt text old new
as_asked acts closes request asked receipt text old new is (inl answers) = answers
as_asked acts closes request asked receipt text old new is (inr unread) =
    let own = asked_routed request asked unread.0 is unread.1 in
    let serves = unread.2 asked.command (goes_there request unread.0 asked.command unread.1 own.1) in
    (Ok asked, is, subst (λ (caller : Caller). ServesAsked acts closes (Ok (record { caller = caller; command = asked.command })) receipt text old new) (sym own.0) serves)
