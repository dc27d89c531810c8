-- A request is answered, and more may come, or none.
use Rattle.std.proofs.Common.{◌≡◌, ◌≢◌, ◌-◌, ◌||◌, ℕ, List, Bool, true, false, Option, Result, Ok, Err, subst, sym, ◌∙◌, ap, refl, inl, inr}
use Rattle.std.specs.Prelude.{◌==◌, if◌then◌else◌}
use Rattle.lrs_http.specs.Links.{GivesNext}
use Rattle.lrs_http.specs.declared.request.Request.{Request}
use Rattle.lrs_machine.specs.Acts.{Receipt}
use Rattle.lrs_hall.specs.Conversation.{ActOn, Phase, Worker, Responds, SendsResponse, ServesRequest, closes_after, going, ended_with, phase_after}
use Rattle.lrs_hall.specs.Steps.{Exchanges, Wrote, exchanged_of}
use Rattle.lrs_hall.specs.declared.exchange.Exchanged.{Exchanged}
use Rattle.lrs_hall.specs.declared.talk.Finish.TheVariants as finish

not_last : (closes : Bool) (most : ℕ) → false ≡ closes || most == 1 → most ≢ 1
not_last closes most e last = no closes (e ∙ ap (λ n. closes || n == 1) last)
  where
    no : (b : Bool) → false ≡ b || true → ⊥
    no true is = cc is
    no false is = cc is

module _ {X : Type 0} (acts : ActOn X) (most : ℕ) (stream after before now : Option (List ℕ)) (request : Request) (receipt : Receipt) (text : List ℕ) (old new : Worker X)
    (next : GivesNext stream (Ok request) after) where
  responds : (closes : Bool) (front : List ℕ) (phase : Phase) → closes ≡ closes_after most (Ok request) → ServesRequest acts closes (Ok request) receipt text old new
      → SendsResponse text (phase_after most (Ok request) after) front phase → Responds acts most stream receipt front old new phase
  responds closes front phase is serves sends = record {
    heard = Ok request;
    after = after;
    next = next;
    text = text;
    answered = subst (λ c. ServesRequest acts c (Ok request) receipt text old new) is serves;
    sent = sends;
  }

  by_sent : {T E : Type 0} (closes : Bool) (sent : Result T E) → closes ≡ closes_after most (Ok request) → ServesRequest acts closes (Ok request) receipt text old new
      → Wrote text sent before now → Exchanges acts most stream after before now old new (exchanged_of receipt sent closes finish.Closed)
  by_sent closes (Err fault) is serves wrote = (wrote.0, responds closes wrote.0 (ended_with finish.LinkFault) is serves (inr (wrote.1, refl)), wrote.2)
  by_sent true (Ok value) is serves wrote =
      (text, responds true text (ended_with finish.Closed) is serves (inl (refl, ap (λ c. if c then ended_with finish.Closed else going (most - 1) after) is)), wrote)
  by_sent false (Ok value) is serves wrote = (
    text,
    responds false text (going (most - 1) after) is serves (inl (refl, ap (λ c. if c then ended_with finish.Closed else going (most - 1) after) is)),
    wrote,
    not_last request.closes most is,
  )

  pub exchanges : {T E : Type 0} (closes : Bool) (sent : Result T E) (exchanged : Exchanged) → closes ≡ closes_after most (Ok request) → ServesRequest acts closes (Ok request) receipt text old new
      → Wrote text sent before now → exchanged ≡ exchanged_of receipt sent closes finish.Closed → Exchanges acts most stream after before now old new exchanged
  exchanges closes sent exchanged is serves wrote e = subst (λ x. Exchanges acts most stream after before now old new x) (sym e) (by_sent closes sent is serves wrote)
