use Rattle.std.proofs.Common.{◌≡◌, ◌∙◌}
use Rattle.std.proofs.lemmas.Result.{IfOk-weaker}
use Rattle.lrs_json_reader.proofs.Parts.{Finds-from, number_found_at, number_all_at, number_utf8}
use Rattle.lrs_json_reader.proofs.cursor.Cursor.number.Goals as goal

pub returns-clause-found : goal.returns-clause-found
returns-clause-found c = IfOk-weaker _ _ _ (λ t p. number_found_at c.args.self.now _ t c.text.new.self c.in-Some.ensures.found.1 p.0 p.1) c.text.ensures.found

pub returns-clause-all : goal.returns-clause-all
returns-clause-all c = λ s rest is num ends.
    let e = number_all_at c.args.self.now _ s rest is (c.in-Some.ensures.all s rest is num ends) in
    Finds-from _ _ _ (λ t. (t ≡ s) × (c.text.new.self ≡ rest)) c.text.ensures.found (c.text.ensures.all (number_utf8 _ c.in-Some.ensures.found.1)) (λ t p q. (p.0 ∙ e.0, p.1 ∙ e.1))
