use Rattle.std.proofs.Common.{◌≡◌, ◌∙◌, [], ◌∷◌, ◌++◌, List, ap, append_assoc, false, if◌then◌else◌, not, subst, sym, true}
use Rattle.std.proofs.lemmas.Result.{on_ok_weaker}
use Rattle.std.proofs.lemmas.Bool.{not-false, not-true}
use Rattle.xapi_index.specs.Ahead.{StandAhead}
use Rattle.xapi_index.specs.Index.{lists_of}
use Rattle.xapi_index.proofs.Adding.{add-new, add-old}
use Rattle.xapi_postings.specs.XapiStatementStatements.{is_held}
use Rattle.xapi_postings.specs.XapiStatementStored.{StoredStatement}
use Rattle.xapi_index.proofs.ahead.write_one.Goals as goal

pub write_new-requires-clause-stands : goal.write_new-requires-clause-stands
write_new-requires-clause-stands c =
    subst (λ (xs : List StoredStatement). StandAhead c.args.held.now xs c.args.postings.now (lists_of c.args.coming.now.items)) (sym c.as_slice.ensures.value) c.requires.stands

pub returns-in-Ok-true-clause-stands : goal.returns-in-Ok-true-clause-stands
returns-in-Ok-true-clause-stands c =
    let held = c.args.held.now in
    let s = c.args.statement.now in
    let new = c.write_new.new in
    let shown = subst (λ (xs : List StoredStatement). StandAhead held (if c.in-Ok-true.field-0 then xs ++ s ∷ [] else xs) new.postings (lists_of new.coming.items)) c.as_slice.ensures.value c.in-Ok-true.ensures.stands in
    let stands = subst (λ b. StandAhead held (if b then c.args.ahead.now.items ++ s ∷ [] else c.args.ahead.now.items) new.postings (lists_of new.coming.items)) c.in-Ok-true.field-0-test shown in
    on_ok_weaker c.push_ahead.result (λ more. subst (λ (xs : List StoredStatement). StandAhead held xs new.postings (lists_of new.coming.items)) (sym more) stands) c.push_ahead.ensures

pub returns-in-Ok-true-clause-added : goal.returns-in-Ok-true-clause-added
returns-in-Ok-true-clause-added c =
    let held = c.args.held.now in
    let ahead = c.args.ahead.now.items in
    let all = held ++ ahead in
    let s = c.args.statement.now in
    let told : not (is_held s.id all) ≡ true =
    subst (λ (xs : List StoredStatement). not (is_held s.id (held ++ xs)) ≡ true) c.as_slice.ensures.value (sym c.in-Ok-true.ensures.new ∙ c.in-Ok-true.field-0-test) in
    on_ok_weaker c.push_ahead.result
    (λ more. ap (λ (xs : List StoredStatement). held ++ xs) more ∙ (sym (append_assoc held ahead (s ∷ [])) ∙ sym (add-new all s (not-true (is_held s.id all) told)))) c.push_ahead.ensures

pub returns-in-Ok-true-clause-index : goal.returns-in-Ok-true-clause-index
returns-in-Ok-true-clause-index c = c.write_new.ensures.index

pub returns-in-Ok-false-clause-stands : goal.returns-in-Ok-false-clause-stands
returns-in-Ok-false-clause-stands c =
    let held = c.args.held.now in
    let s = c.args.statement.now in
    let new = c.write_new.new in
    let shown = subst (λ (xs : List StoredStatement). StandAhead held (if c.in-Ok-false.field-0 then xs ++ s ∷ [] else xs) new.postings (lists_of new.coming.items)) c.as_slice.ensures.value c.in-Ok-false.ensures.stands in
    subst (λ b. StandAhead held (if b then c.args.ahead.now.items ++ s ∷ [] else c.args.ahead.now.items) new.postings (lists_of new.coming.items)) c.in-Ok-false.field-0-test shown

pub returns-in-Ok-false-clause-added : goal.returns-in-Ok-false-clause-added
returns-in-Ok-false-clause-added c =
    let held = c.args.held.now in
    let all = held ++ c.args.ahead.now.items in
    let s = c.args.statement.now in
    let told : not (is_held s.id all) ≡ false =
    subst (λ (xs : List StoredStatement). not (is_held s.id (held ++ xs)) ≡ false) c.as_slice.ensures.value (sym c.in-Ok-false.ensures.new ∙ c.in-Ok-false.field-0-test) in
    sym (add-old all s (not-false (is_held s.id all) told))

pub returns-in-Ok-false-clause-index : goal.returns-in-Ok-false-clause-index
returns-in-Ok-false-clause-index c = c.write_new.ensures.index

pub returns-in-Err-clause-index : goal.returns-in-Err-clause-index
returns-in-Err-clause-index c = c.write_new.ensures.index
