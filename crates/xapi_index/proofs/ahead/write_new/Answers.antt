use Rattle.std.proofs.Common.{◌≡◌, ◌+◌, ◌∙◌, ◌&&◌, [], ◌∷◌, ◌++◌, ap, false, is_some, length, not, refl, slice_get, subst, sym, true}
use Rattle.std.proofs.lemmas.Slice.Eq.{bytes_eq-Decides}
use Rattle.xapi_index.specs.Ahead.{ChangesEach, ChangesSome, StandAhead}
use Rattle.xapi_index.specs.Index.{IsIndex, lists_of}
use Rattle.xapi_index.proofs.Coming.{held_told}
use Rattle.xapi_index.proofs.Keyed.{lists_push}
use Rattle.xapi_index.proofs.Standing.{part_index, stand_behind, stand_index, stand_more, stand_same}
use Rattle.xapi_postings.specs.Postings.{posted, posting_of}
use Rattle.xapi_postings.specs.XapiStatementKeysKeys.{is_among}
use Rattle.xapi_postings.specs.XapiStatementKeysKeyKeyTheVariants as key
use Rattle.xapi_postings.specs.XapiStatementStatements.{is_held}
use Rattle.xapi_index.proofs.ahead.write_new.Goals as goal

pub post_new-told-requires-clause-own : goal.post_new-told-requires-clause-own
post_new-told-requires-clause-own c =
    subst (λ ks. is_among (key.Statement c.id.result) ks ≡ true) (sym c.as_slice.ensures.value)
    (c.in_ok-keys.ensures (key.Statement c.id.result) ∙ (bytes_eq-Decides c.args.statement.now.id c.id.result).1 (sym c.id.ensures))

pub post_new-told-requires-clause-behind : goal.post_new-told-requires-clause-behind
post_new-told-requires-clause-behind c =
    stand_behind c.args.held.now c.args.ahead.now c.args.postings.now (lists_of c.args.coming.now.items) c.in_ok-position.position c.in_ok-position.ensures c.requires.stands (key.Statement c.id.result)

pub returns-in_err-position-clause-index : goal.returns-in_err-position-clause-index
returns-in_err-position-clause-index c = stand_index c.args.held.now c.args.ahead.now c.args.postings.now (lists_of c.args.coming.now.items) c.requires.stands

pub returns-in_err-keys-clause-index : goal.returns-in_err-keys-clause-index
returns-in_err-keys-clause-index c = stand_index c.args.held.now c.args.ahead.now c.args.postings.now (lists_of c.args.coming.now.items) c.requires.stands

-- ---- a new one

pub returns-in-Ok-true-clause-new : goal.returns-in-Ok-true-clause-new
returns-in-Ok-true-clause-new c =
    let all = c.args.held.now ++ c.args.ahead.now in
    let first = slice_get (posting_of (key.Statement c.id.result) c.args.postings.now) 0 in
    let told : is_some first ≡ is_held c.args.statement.now.id all =
    held_told c.args.postings.now all c.id.result first c.requires.stands.posted refl ∙ ap (λ id. is_held id all) c.id.ensures in
    sym c.in-Ok-true.field-0-test ∙ (c.in-Ok-true.ensures.new ∙ ap not told)

pub returns-in-Ok-true-clause-stands : goal.returns-in-Ok-true-clause-stands
returns-in-Ok-true-clause-stands c =
    let held = c.args.held.now in
    let ahead = c.args.ahead.now in
    let old = c.args.postings.now in
    let new = c.post_new-told.new.postings in
    let coming = c.args.coming.now.items in
    let keys = c.in_ok-keys.keys in
    let position = c.in_ok-position.position in
    let at : position ≡ length held + length (lists_of coming) = c.in_ok-position.ensures ∙ ap (λ n. length held + n) c.requires.stands.long in
    let lists : lists_of c.push_reserved.new.self.items ≡ lists_of coming ++ keys.items.items ∷ [] = ap (λ xs. lists_of xs) c.push_reserved.ensures.items ∙ lists_push coming keys in
    let each = subst (λ ks. ChangesEach (λ k. c.in-Ok-true.field-0 && is_among k ks) (posted position) old new) c.as_slice.ensures.value c.in-Ok-true.ensures.each in
    subst (λ ls. StandAhead held (ahead ++ c.args.statement.now ∷ []) new ls) (sym lists)
    (stand_more held ahead old new (lists_of coming) keys.items.items c.args.statement.now position at c.in_ok-keys.ensures
    (subst (λ b. ChangesEach (λ k. b && is_among k keys.items.items) (posted position) old new) c.in-Ok-true.field-0-test each) c.requires.stands)

pub returns-in-Ok-true-clause-index : goal.returns-in-Ok-true-clause-index
returns-in-Ok-true-clause-index c =
    let held = c.args.held.now in
    let new = c.post_new-told.new.postings in
    let coming = c.args.coming.now.items in
    let keys = c.in_ok-keys.keys in
    let position = c.in_ok-position.position in
    let at : position ≡ length held + length (lists_of coming) = c.in_ok-position.ensures ∙ ap (λ n. length held + n) c.requires.stands.long in
    let lists : lists_of c.push_reserved.new.self.items ≡ lists_of coming ++ keys.items.items ∷ [] = ap (λ xs. lists_of xs) c.push_reserved.ensures.items ∙ lists_push coming keys in
    subst (λ ls. IsIndex held new ls false) (sym lists)
    (part_index held c.args.ahead.now c.args.postings.now new (lists_of coming) keys.items.items position at
    (subst (λ ks. ChangesSome (λ k. is_among k ks) (posted position) c.args.postings.now new) c.as_slice.ensures.value c.post_new-told.ensures.some) c.requires.stands)

-- ---- one that stands there already

pub returns-in-Ok-false-clause-new : goal.returns-in-Ok-false-clause-new
returns-in-Ok-false-clause-new c =
    let all = c.args.held.now ++ c.args.ahead.now in
    let first = slice_get (posting_of (key.Statement c.id.result) c.args.postings.now) 0 in
    let told : is_some first ≡ is_held c.args.statement.now.id all =
    held_told c.args.postings.now all c.id.result first c.requires.stands.posted refl ∙ ap (λ id. is_held id all) c.id.ensures in
    sym c.in-Ok-false.field-0-test ∙ (c.in-Ok-false.ensures.new ∙ ap not told)

pub returns-in-Ok-false-clause-stands : goal.returns-in-Ok-false-clause-stands
returns-in-Ok-false-clause-stands c =
    let old = c.args.postings.now in
    let new = c.post_new-told.new.postings in
    let each = subst (λ b. ChangesEach (λ k. b && is_among k c.as_slice.result.now) (posted c.in_ok-position.position) old new) c.in-Ok-false.field-0-test c.in-Ok-false.ensures.each in
    stand_same c.args.held.now c.args.ahead.now old new (lists_of c.args.coming.now.items) (λ k. each k) c.requires.stands

pub returns-in-Ok-false-clause-index : goal.returns-in-Ok-false-clause-index
returns-in-Ok-false-clause-index c =
    let old = c.args.postings.now in
    let new = c.post_new-told.new.postings in
    let each = subst (λ b. ChangesEach (λ k. b && is_among k c.as_slice.result.now) (posted c.in_ok-position.position) old new) c.in-Ok-false.field-0-test c.in-Ok-false.ensures.each in
    stand_index c.args.held.now c.args.ahead.now new (lists_of c.args.coming.now.items)
    (stand_same c.args.held.now c.args.ahead.now old new (lists_of c.args.coming.now.items) (λ k. each k) c.requires.stands)

-- ---- no memory

pub returns-in-Err-clause-index : goal.returns-in-Err-clause-index
returns-in-Err-clause-index c =
    let held = c.args.held.now in
    let new = c.post_new-told.new.postings in
    let coming = c.args.coming.now.items in
    let keys = c.in_ok-keys.keys in
    let position = c.in_ok-position.position in
    let at : position ≡ length held + length (lists_of coming) = c.in_ok-position.ensures ∙ ap (λ n. length held + n) c.requires.stands.long in
    let lists : lists_of c.push_reserved-in-Err.new.self.items ≡ lists_of coming ++ keys.items.items ∷ [] = ap (λ xs. lists_of xs) c.push_reserved-in-Err.ensures.items ∙ lists_push coming keys in
    subst (λ ls. IsIndex held new ls false) (sym lists)
    (part_index held c.args.ahead.now c.args.postings.now new (lists_of coming) keys.items.items position at
    (subst (λ ks. ChangesSome (λ k. is_among k ks) (posted position) c.args.postings.now new) c.as_slice.ensures.value c.post_new-told.ensures.some) c.requires.stands)
