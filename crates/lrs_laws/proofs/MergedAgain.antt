-- What is merged is an object that can be read again.
use Rattle.std.proofs.Common.{◌≡◌, ◌<◌, ◌||◌, ℕ, List, [], ◌∷◌, Bool, true, false, Option, Some, None, option_map, option_and_then, if◌then◌else◌, refl, sym, ap, ◌∙◌, subst, arith, IsUtf8}
use Rattle.std.specs.Str.{bytes_eq}
use Rattle.std.proofs.lemmas.Cmp.{nat_list_eq_equiv}
use Rattle.std.proofs.lemmas.Option.{none-some, option_and_then_some, same_Some}
use Rattle.lrs_json.specs.Depth.{depth, depth_of_members}
use Rattle.lrs_json.specs.Fits.{FitMembers, Fits, IsReadable}
use Rattle.lrs_json.specs.Json.{Json, null, boolean, number, string, array, object, Members, no_members, member}
use Rattle.lrs_json.specs.Names.{is_among}
use Rattle.lrs_json.specs.Parts.{members_in}
use Rattle.lrs_json.specs.Written.{written}
use Rattle.lrs_json.specs.declared.limits.TheConstants.{DEPTH}
use Rattle.lrs_json_reader.proofs.WrittenLemmas.{Spells-IsReadable, written-Spells}
use Rattle.lrs_json_spelled.proofs.Law.{finds_what_is_spelled}
use Rattle.lrs_json_spelled.specs.Spelled.{value_in}
use Rattle.lrs_laws.specs.Documents.{MergedIsRead}
use Rattle.xapi_docs.specs.Merging.{merged_members, object_in, with_member, with_members}

-- ---- one member

put_fits : (names : List (List ℕ)) (k : List ℕ) (j : Json) (ms : Members) → IsUtf8 k → is_among k names ≡ false → Fits j → FitMembers names ms → FitMembers names (with_member k j ms)
put_fits names k j no_members utf8 new fits h = (utf8, new, fits, tt)
put_fits names k j (member x v ms) utf8 new fits h = by_name (bytes_eq x k) refl (λ more. put_fits (x ∷ names) k j ms utf8 more fits h.3)
  where
    by_name : (b : Bool) → bytes_eq x k ≡ b → (is_among k (x ∷ names) ≡ false → FitMembers (x ∷ names) (with_member k j ms)) → FitMembers names (if b then member x j ms else member x v (with_member k j ms))
    by_name true is later = (h.0, h.1, fits, h.3)
    by_name false is later = (h.0, h.1, h.2, later (ap (λ b. b || is_among k names) (nat_list_eq_equiv.symm k x ∙ is) ∙ new))

put_depth : (n : ℕ) (k : List ℕ) (j : Json) (ms : Members) → depth j < n → depth_of_members ms < n → depth_of_members (with_member k j ms) < n
put_depth n k j no_members low h = omega arith
put_depth n k j (member x v ms) low h = by_name (bytes_eq x k) (put_depth n k j ms low (omega arith))
  where
    by_name : (b : Bool) → depth_of_members (with_member k j ms) < n → depth_of_members (if b then member x j ms else member x v (with_member k j ms)) < n
    by_name true later = omega arith
    by_name false later = omega arith

-- ---- all of them

all_fit : (old new : Members) (names : List (List ℕ)) → FitMembers [] old → FitMembers names new → FitMembers [] (with_members old new)
all_fit old no_members names o h = o
all_fit old (member k j ms) names o h = all_fit (with_member k j old) ms (k ∷ names) (put_fits [] k j old h.0 refl h.2 o) h.3

all_depth : (n : ℕ) (old new : Members) → depth_of_members old < n → depth_of_members new < n → depth_of_members (with_members old new) < n
all_depth n old no_members o h = o
all_depth n old (member k j ms) o h = all_depth n (with_member k j old) ms (put_depth n k j old (omega arith) o) (omega arith)

merged_readable : (limit : ℕ) (a b : Members) → IsReadable limit (object a) → IsReadable limit (object b) → IsReadable limit (object (with_members a b))
merged_readable limit a b ra rb =
    let da = ra.1 in
    let db = rb.1 in
    let low = all_depth limit a b (omega arith) (omega arith) in
    (all_fit a b [] ra.0 rb.0, omega arith)

-- ---- objects

is_object : (j : Json) (a : Members) → members_in j ≡ Some a → j ≡ object a
is_object null a e = absurd (none-some a e)
is_object (boolean b) a e = absurd (none-some a e)
is_object (number s) a e = absurd (none-some a e)
is_object (string s) a e = absurd (none-some a e)
is_object (array js) a e = absurd (none-some a e)
is_object (object ms) a e = ap object (same_Some ms a e)

object_readable : (bytes : List ℕ) (a : Members) → object_in bytes ≡ Some a → IsReadable DEPTH (object a)
object_readable bytes a e =
    option_and_then_some members_in (value_in DEPTH bytes) a e (λ j is m.
    subst (λ z. IsReadable DEPTH z) (is_object j a m) (Spells-IsReadable DEPTH bytes j ((finds_what_is_spelled DEPTH bytes j).0 is)))

read_again : (a : Members) → IsReadable DEPTH (object a) → object_in (written (object a)) ≡ Some a
read_again a r = ap (option_and_then members_in) ((finds_what_is_spelled DEPTH (written (object a)) (object a)).1 (written-Spells DEPTH (object a) r))

pub merged_is_read : MergedIsRead
merged_is_read old new merged e = by_objects (object_in old) (object_in new) refl refl e
  where
    by_objects : (o p : Option Members) → object_in old ≡ o → object_in new ≡ p → option_map (λ ms. written (object ms)) (merged_members o p) ≡ Some merged → object_in merged ≡ merged_members o p
    by_objects None p io ip h = absurd (none-some merged h)
    by_objects (Some a) None io ip h = absurd (none-some merged h)
    by_objects (Some a) (Some b) io ip h =
        ap object_in (sym (same_Some (written (object (with_members a b))) merged h)) ∙ read_again (with_members a b) (merged_readable DEPTH a b (object_readable old a io) (object_readable new b ip))
