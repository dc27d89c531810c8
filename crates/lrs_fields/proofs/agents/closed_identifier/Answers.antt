use Rattle.std.proofs.Common.{[], ◌∷◌, refl}
use Rattle.lrs_decimal.specs.Numbers.{Ends}
use Rattle.lrs_fields.specs.Reading.{identifier_text}
use Rattle.lrs_fields.specs.Values.{HoldsAgent}
use Rattle.lrs_fields.proofs.Sequences.{after_word, before, closed, failed, no_word, not_begun, not_closed}
use Rattle.lrs_fields.proofs.agents.closed_identifier.Goals as goal

pub returns-in_err-word : goal.returns-in_err-word
returns-in_err-word c = failed _ c.from_residual.ensures.1 (no_word c.args.front.now (before identifier_text (125 ∷ [])) HoldsAgent Ends _ _ _ c.in_err-word.ensures.all)

pub returns-in_err-ifi : goal.returns-in_err-ifi
returns-in_err-ifi c =
    failed _ c.from_residual-in_err-ifi.ensures.1
    (after_word c.args.front.now (before identifier_text (125 ∷ [])) HoldsAgent Ends _ _ _ _ c.in_ok-word.ensures.found c.in_ok-word.ensures.all
    (not_begun identifier_text (125 ∷ []) HoldsAgent Ends Ends _ _ _ _ c.in_err-ifi.ensures (λ rest f. refl)))

pub returns-in_err-word-2 : goal.returns-in_err-word-2
returns-in_err-word-2 c =
    failed _ c.from_residual-in_err-word-2.ensures.1
    (after_word c.args.front.now (before identifier_text (125 ∷ [])) HoldsAgent Ends _ _ _ _ c.in_ok-word.ensures.found c.in_ok-word.ensures.all
    (not_closed identifier_text (125 ∷ []) HoldsAgent Ends Ends _ _ _ _ _ c.in_ok-ifi.ensures c.in_err-word-2.ensures.all (λ rest f. refl)))

pub returns : goal.returns
returns c =
    after_word c.args.front.now (before identifier_text (125 ∷ [])) HoldsAgent Ends _ _ _ _ c.in_ok-word.ensures.found c.in_ok-word.ensures.all
    (closed identifier_text (125 ∷ []) HoldsAgent Ends Ends _ _ _ _ c.in_ok-ifi.ensures c.in_ok-word-2.ensures.found c.in_ok-word-2.ensures.all (λ rest f. refl))
