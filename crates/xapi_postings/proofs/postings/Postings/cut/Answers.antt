use Rattle.std.proofs.Common.{◌∙◌, ℕ, List, nat_lt, sym, ap}
use Rattle.std.specs.List.{list_any}
use Rattle.xapi_postings.proofs.Changing.{taken_out}
use Rattle.xapi_postings.proofs.postings.Postings.cut.Goals as goal

pub cut_list-requires : goal.cut_list-requires
cut_list-requires c = sym (c.has_below.ensures ∙ ap (λ (ks : List ℕ). list_any (λ k. nat_lt k c.args.n) ks) c.get.ensures) ∙ c.if-has_below.true

pub returns-else-has_below : goal.returns-else-has_below
returns-else-has_below c =
    taken_out c.args.key.now c.args.n c.self.inside.map.entries c.args.self.now c.remove-positions.new.self.entries c.self.view_is
    (sym (c.has_below.ensures ∙ ap (λ (ks : List ℕ). list_any (λ k. nat_lt k c.args.n) ks) c.get.ensures) ∙ c.if-has_below.false)
    c.remove-positions.ensures.updates.0
