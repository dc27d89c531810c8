-- What is seen of each kind of tree.
use Rattle.std.proofs.Common.{◌≡◌, ℕ, List, Bool, map, rules}
use Rattle.lrs_json.specs.Json.{null, boolean, number, string, array, object}
use Rattle.lrs_json.specs.View.{view, member_view, elements_of, members_of}
use Rattle.lrs_json.specs.declared.tree.Tree.{Tree, Null, Bool as Boolean, Number, Words, List as Many, Object, the_lemmas}
use Rattle.lrs_json.specs.declared.tree.Member.{Member}

pub view-Null : view Null ≡ null
view-Null = search (rules, the_lemmas)

pub view-Bool : (b : Bool) → view (Boolean b) ≡ boolean b
view-Bool b = search (rules, the_lemmas)

pub view-Words : (s : List ℕ) → view (Words s) ≡ string s
view-Words s = search (rules, the_lemmas)

pub view-Number : (s : List ℕ) → view (Number s) ≡ number s
view-Number s = search (rules, the_lemmas)

pub view-List : (ts : List Tree) → view (Many ts) ≡ array (elements_of (map view ts))
view-List ts = search (rules, the_lemmas)

pub view-Object : (ts : List Member) → view (Object ts) ≡ object (members_of (map member_view ts))
view-Object ts = search (rules, the_lemmas)
