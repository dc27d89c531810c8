use Rattle.std.proofs.Common.{◌≡◌, ◌∙◌, ◌++◌, ◌-◌, ◌≤◌, List, ap, arith, length, subst, sym, vec_capacity, vec_len}
use Rattle.xapi_index.specs.Index.{ArePosted, Indexed, lists_of}
use Rattle.xapi_postings.specs.XapiStatementStatements.{add_each}
use Rattle.xapi_index.proofs.Adding.{few_new}
use Rattle.xapi_index.proofs.Standing.{rest_index}
use Rattle.xapi_postings.specs.XapiStatementStored.{StoredStatement}
use Rattle.xapi_index.proofs.index.Index.install.Goals as goal

pub install_each-requires-clause-spare : goal.install_each-requires-clause-spare
install_each-requires-clause-spare c =
    let old = c.args.self.now in
    let spare : vec_capacity c.self.inside.held - vec_len c.self.inside.held ≡ old.spare = ap (λ (v : Indexed). v.spare) c.self.view_is in
    let same : c.self.inside.ahead.items ≡ old.ahead = ap (λ (v : Indexed). v.ahead) c.self.view_is in
    let few : length old.ahead ≤ length c.args.statements.now = few_new old.held c.args.statements.now old.ahead c.requires.ahead in
    omega (arith, spare, ap (λ (xs : List StoredStatement). length xs) same, few, c.requires.spare)

pub install_each-requires-clause-rising : goal.install_each-requires-clause-rising
install_each-requires-clause-rising c = c.self.invariant.rising

pub invariant_of-self : goal.invariant_of-self
invariant_of-self c =
    let old = c.args.self.now in
    let new = c.install_each.new in
    let held : new.held.items ≡ add_each old.held c.args.statements.now =
    c.install_each.ensures.held ∙ (ap (λ (v : Indexed). v.held ++ v.ahead) c.self.view_is ∙ sym c.requires.ahead) in
    let posted = subst (λ (v : Indexed). ArePosted (add_each old.held c.args.statements.now) v.postings) (sym c.self.view_is) c.requires.posted in
    rest_index new.held.items c.self.inside.postings (lists_of c.clear.new.self.items) new.rising (subst (λ (xs : List StoredStatement). ArePosted xs c.self.inside.postings) (sym held) posted)
    (ap (λ xs. lists_of xs) c.clear.ensures.items) c.install_each.ensures.rising

pub returns-clause-held : goal.returns-clause-held
returns-clause-held c = c.install_each.ensures.held ∙ (ap (λ (v : Indexed). v.held ++ v.ahead) c.self.view_is ∙ sym c.requires.ahead)

pub returns-clause-nothing : goal.returns-clause-nothing
returns-clause-nothing c =
    let old = c.args.self.now in
    let new = c.install_each.new in
    let held : new.held.items ≡ add_each old.held c.args.statements.now =
    c.install_each.ensures.held ∙ (ap (λ (v : Indexed). v.held ++ v.ahead) c.self.view_is ∙ sym c.requires.ahead) in
    let posted = subst (λ (v : Indexed). ArePosted (add_each old.held c.args.statements.now) v.postings) (sym c.self.view_is) c.requires.posted in
    record {
      posted = subst (λ (xs : List StoredStatement). ArePosted xs c.self.inside.postings) (sym held) posted;
      coming = ap (λ xs. lists_of xs) c.clear.ensures.items;
      ahead = c.install_each.ensures.nothing;
    }
