use Rattle.std.proofs.Common.{◌≡◌, ◌∙◌, ℕ, List, Some, is_some, OnOk, OnErr, sym, ap, subst}
use Rattle.std.specs.BTreeMap.{BTreeMap}
use Rattle.std.specs.Map.{lookup}
use Rattle.std.specs.Option.{option_copied_mut}
use Rattle.std.proofs.lemmas.Result.{on_err_weaker, on_ok_weaker}
use Rattle.xapi_statement_keys.specs.Keys.{is_same_key}
use Rattle.xapi_statement_keys.specs.declared.key.Key.{Key}
use Rattle.xapi_postings.specs.Postings.{Changes, SamePostings, posted, posting_of}
use Rattle.xapi_postings.proofs.Changing.{KeyedPostings, listed, put_back, replaced}
use Rattle.xapi_postings.proofs.postings.Postings.post.Goals as goal

pub returns-in-Some-clause-posted : goal.returns-in-Some-clause-posted
returns-in-Some-clause-posted c =
    let key = c.args.key.now in
    let old = c.in-Some.positions.now in
    let new = c.put.new.self in
    let found : lookup (is_same_key key) c.self.inside.map.entries ≡ Some old = sym c.get_mut.ensures.value ∙ ap option_copied_mut c.in-Some.is in
    on_ok_weaker c.put.result
    (λ (is : new ≡ posted c.args.position old).
    replaced key (posted c.args.position) old new c.self.inside.map.entries c.args.self.now (c.get_mut.follows.lender new).entries c.self.view_is found
    ((c.get_mut.follows.holds new).3 (ap is_some found)).0 is)
    c.put.ensures.posted

pub returns-in-Some-clause-same : goal.returns-in-Some-clause-same
returns-in-Some-clause-same c =
    let key = c.args.key.now in
    let old = c.in-Some.positions.now in
    let new = c.put.new.self in
    let found : lookup (is_same_key key) c.self.inside.map.entries ≡ Some old = sym c.get_mut.ensures.value ∙ ap option_copied_mut c.in-Some.is in
    on_err_weaker c.put.result
    (λ (is : new ≡ old).
    put_back key old new c.self.inside.map.entries c.args.self.now (c.get_mut.follows.lender new).entries c.self.view_is found
    ((c.get_mut.follows.holds new).3 (ap is_some found)).0 is)
    c.put.ensures.same

pub post_first-requires : goal.post_first-requires
post_first-requires c =
    ap (λ (m : BTreeMap Key (List ℕ)). posting_of c.args.key.now m.entries) c.get_mut.follows.holds-at-none
    ∙ ap listed (sym c.get_mut.ensures.value ∙ ap option_copied_mut c.in-None.is)

pub returns-in-None-clause-posted : goal.returns-in-None-clause-posted
returns-in-None-clause-posted c =
    let same = ap (λ (m : BTreeMap Key (List ℕ)). m.entries) c.get_mut.follows.holds-at-none ∙ c.self.view_is in
    subst (λ (es : KeyedPostings). OnOk c.post_first.result (Changes c.args.key.now (posted c.args.position) es c.post_first.new.map.entries)) same c.post_first.ensures.posted

pub returns-in-None-clause-same : goal.returns-in-None-clause-same
returns-in-None-clause-same c =
    let same = ap (λ (m : BTreeMap Key (List ℕ)). m.entries) c.get_mut.follows.holds-at-none ∙ c.self.view_is in
    subst (λ (es : KeyedPostings). OnErr c.post_first.result (SamePostings es c.post_first.new.map.entries)) same c.post_first.ensures.same
