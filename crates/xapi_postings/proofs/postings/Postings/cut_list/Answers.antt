use Rattle.std.proofs.Common.{◌≡◌, ◌∙◌, ℕ, List, [], Some, nat_lt, true, is_some, sym, ap, subst}
use Rattle.std.specs.List.{list_any}
use Rattle.std.specs.Map.{lookup}
use Rattle.std.specs.Option.{option_copied_mut}
use Rattle.std.proofs.lemmas.Bool.{false≢true}
use Rattle.xapi_statement_keys.specs.Keys.{is_same_key}
use Rattle.xapi_postings.specs.Ascending.{below}
use Rattle.xapi_postings.specs.Postings.{posting_of}
use Rattle.xapi_postings.proofs.Changing.{KeyedPostings, listed, replaced}
use Rattle.xapi_postings.proofs.postings.Postings.cut_list.Goals as goal
use Rattle.xapi_postings.proofs.postings.Postings.cut_list.Goals.{in-Some, in-None}

pub cut-requires : goal.cut-requires
cut-requires c =
    let key = c.args.key.now in
    let found : posting_of key c.args.self.now ≡ c.in-Some.positions.now =
    sym (ap (λ (es : KeyedPostings). posting_of key es) c.self.view_is) ∙ ap listed (sym c.get_mut.ensures.value ∙ ap option_copied_mut c.in-Some.is) in
    subst (λ (ks : List ℕ). list_any (λ k. nat_lt k c.args.n) ks ≡ true) found c.requires

pub returns : goal.returns
returns c =
    let key = c.args.key.now in
    elim c.match-get_mut.branch [
      | in-Some w ↦
          let old = w.in-Some.positions.now in
          let new = w.cut.new.self in
          let found : lookup (is_same_key key) c.self.inside.map.entries ≡ Some old = sym c.get_mut.ensures.value ∙ ap option_copied_mut w.in-Some.is in
          rw w.self-inside-is
          (replaced key (below c.args.n) old new c.self.inside.map.entries c.args.self.now (c.get_mut.follows.lender new).entries c.self.view_is found
          ((c.get_mut.follows.holds new).3 (ap is_some found)).0 w.cut.ensures)
      | in-None w ↦
          let none : posting_of key c.args.self.now ≡ [] =
          sym (ap (λ (es : KeyedPostings). posting_of key es) c.self.view_is) ∙ ap listed (sym c.get_mut.ensures.value ∙ ap option_copied_mut w.in-None.is) in
          absurd (false≢true (sym (ap (λ (ks : List ℕ). list_any (λ k. nat_lt k c.args.n) ks) none) ∙ c.requires))
    ]
