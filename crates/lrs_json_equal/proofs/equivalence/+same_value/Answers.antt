use Rattle.std.proofs.Common.{◌≡◌, map, sym, ◌∙◌, subst, rules}
use Rattle.std.proofs.lemmas.List.{length-map}
use Rattle.lrs_json.specs.View.{view, member_view, members_of}
use Rattle.lrs_json.specs.Fits.{Fits}
use Rattle.lrs_json.specs.declared.tree.Tree.{the_lemmas}
use Rattle.lrs_json_equal.proofs.SameValues.{Fits-found, lengths_differ}
use Rattle.lrs_json_equal.proofs.equivalence.+same_value.Goals as goal

pub has_same_value-is_same_value-requires : goal.has_same_value-is_same_value-requires
has_same_value-is_same_value-requires t c =
    let seen : (member_view c.args.member.now).1 ≡ view c.args.member.now.value = search (rules, the_lemmas) in
    let found = Fits-found (members_of (map member_view c.args.members.now)) _ _ _ c.requires.members_fit.1 (sym (c.in-Some.ensures.first _ c.requires.members_fit.1)) in
    (search (rules, the_lemmas), (subst Fits seen c.requires.member_fits, found))

pub have_same_values-returns-then-a-b : goal.have_same_values-returns-then-a-b
have_same_values-returns-then-a-b t c =
    lengths_differ (map view c.args.a.now) (map view c.args.b.now) (λ e. c.if-a-b.true (sym (length-map c.args.a.now view) ∙ e ∙ length-map c.args.b.now view))
