use Rattle.std.proofs.Common.{◌≡◌, List, ℕ, length, sym, subst, ◌∙◌}
use Rattle.lrs_json.specs.Texts.{member_text}
use Rattle.lrs_json.specs.View.{view}
use Rattle.lrs_json.specs.Written.{written}
use Rattle.xapi_received.specs.Received.{IsWithin, bytes_at}
use Rattle.xapi_received.proofs.Drafting.{left_out}
use Rattle.xapi_received.proofs.draft.Draft.leave_member.Goals as goal

pub returns-clause-adds : goal.returns-clause-adds
returns-clause-adds c =
    left_out c.args.self.now c.pause.new.self c.skip.new.self (member_text c.args.later c.args.part.now.name (view c.args.part.now.value)) c.in_ok-pause.ensures.adds c.in_ok-pause.ensures.ends
    (c.in_ok-skip.ensures.text ∙ c.in_ok-span.ensures.text) c.in_ok-skip.ensures.excerpts c.in_ok-skip.ensures.ends

pub returns-clause-within : goal.returns-clause-within
returns-clause-within c = subst (λ (t : List ℕ). IsWithin (length t) c.in_ok-span.span) (sym c.in_ok-skip.ensures.text) c.in_ok-span.ensures.within

pub returns-clause-value : goal.returns-clause-value
returns-clause-value c = subst (λ (t : List ℕ). bytes_at t c.in_ok-span.span ≡ written (view c.args.part.now.value)) (sym c.in_ok-skip.ensures.text) c.in_ok-span.ensures.value
