-- A tree is told by what is seen of it.
use Rattle.std.proofs.Common.{◌≡◌, List, [], ◌∷◌, map, refl, sym, ap, ◌∙◌, subst, rules}
use Rattle.lrs_json.specs.View.{view, member_view, elements_of, members_of}
use Rattle.lrs_json.specs.Trees.{tree_of, trees_of, named_of}
use Rattle.lrs_json.specs.declared.tree.Tree.{Tree, List as Many, Object, the_lemmas}
use Rattle.lrs_json.specs.declared.tree.Member.{Member}
use Rattle.lrs_json.specs.declared.tree.Tree.TheOpen.{Tree-F, Member-F}
use Rattle.lrs_json.specs.declared.tree.Tree.TheFolds.{ind-Tree, map-Tree, map-Member}
use Rattle.lrs_json.specs.declared.tree.Tree.TheViews.{roll-Member, roll-Tree}
use Rattle.lrs_json.specs.declared.tree.Tree.TheVariants.{rolls-List, rolls-Object}
use Rattle.lrs_json.proofs.Views.{view-List, view-Object}

abbrev IsBack : Tree → Type 0
IsBack t = tree_of (view t) ≡ t

abbrev MemberIsBack : Member → Type 0
MemberIsBack m = roll-Member (record { name = (member_view m).0; value = tree_of (member_view m).1 }) ≡ m

trees_back : (es : List ((t : Tree) × IsBack t)) → trees_of (elements_of (map view (map (λ e. e.0) es))) ≡ map (λ e. e.0) es
trees_back [] = refl
trees_back (e ∷ es) = cc (e.1, trees_back es)

members_back : (es : List ((m : Member) × MemberIsBack m)) → named_of (members_of (map member_view (map (λ e. e.0) es))) ≡ map (λ e. e.0) es
members_back [] = refl
members_back (e ∷ es) = cc (e.1, members_back es)

tree_step : (y : Tree-F ((t : Tree) × IsBack t) ((m : Member) × MemberIsBack m))
    → IsBack (roll-Tree (map-Tree ((t : Tree) × IsBack t) ((m : Member) × MemberIsBack m) Tree Member (λ e. e.0) (λ e. e.0) y))
tree_step Tree-F.Null = search (rules, the_lemmas)
tree_step (Tree-F.Bool b) = search (rules, the_lemmas)
tree_step (Tree-F.Number s) = search (rules, the_lemmas)
tree_step (Tree-F.Words s) = search (rules, the_lemmas)
tree_step (Tree-F.List es) = rw (rolls-List (map (λ e. e.0) es), view-List) (ap Many (trees_back es))
tree_step (Tree-F.Object es) = rw (rolls-Object (map (λ e. e.0) es), view-Object) (ap Object (members_back es))

member_step : (y : Member-F ((t : Tree) × IsBack t) ((m : Member) × MemberIsBack m))
    → MemberIsBack (roll-Member (map-Member ((t : Tree) × IsBack t) ((m : Member) × MemberIsBack m) Tree Member (λ e. e.0) (λ e. e.0) y))
member_step y =
    let m : Member = roll-Member (record { name = y.name; value = y.value.0 }) in
    let v : member_view m ≡ (y.name, view y.value.0) = search (rules, the_lemmas) in
    ap (λ e. roll-Member (record { name = e.0; value = tree_of e.1 })) v ∙ ap (λ t. roll-Member (record { name = y.name; value = t })) y.value.1

pub back : (t : Tree) → tree_of (view t) ≡ t
back = ind-Tree IsBack MemberIsBack (λ x y is. subst (λ z. IsBack (roll-Tree z)) is (tree_step y)) (λ x y is. subst (λ z. MemberIsBack (roll-Member z)) is (member_step y))

-- a tree is told by what is seen of it
pub same_tree : (t u : Tree) → view t ≡ view u → t ≡ u
same_tree t u e = sym (back t) ∙ ap tree_of e ∙ back u

pub same_trees : (ts us : List Tree) → elements_of (map view ts) ≡ elements_of (map view us) → ts ≡ us
same_trees [] [] e = refl
same_trees [] (u ∷ us) e = absurd (cc e)
same_trees (t ∷ ts) [] e = absurd (cc e)
same_trees (t ∷ ts) (u ∷ us) e =
    let first : view t ≡ view u = cc e in
    let rest : elements_of (map view ts) ≡ elements_of (map view us) = cc e in
    cc (same_tree t u first, same_trees ts us rest)
