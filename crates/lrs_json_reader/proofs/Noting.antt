-- The flaws in a list of values, noted one by one.
use Rattle.std.proofs.Common.{◌≡◌, ℕ, max, List, [], ◌∷◌, ◌++◌, map, Option, Some, None, if◌then◌else◌, refl, sym, ap, ◌∙◌, arith}
use Rattle.lrs_json_reader.specs.Located.{Located, array, object, Elements, no_elements, element, Members, no_members, member}
use Rattle.lrs_json.specs.Names.{is_among}
use Rattle.lrs_json_reader.specs.Flaws.{earlier, earliest, repeated_names, repeated_in_elements, repeated_in_members, out_of_range_numbers, out_of_range_in_elements, out_of_range_in_members}
use Rattle.lrs_json_reader.specs.Reading.{noted, Entry, noted_entry, repeated_among}
use Rattle.lrs_json_reader.specs.declared.reader.Flaws.{Flaws}

-- the elements, and then others
abbrev pub before_elements : List Located → Elements → Elements
before_elements [] more = more
before_elements (p ∷ ps) more = element p (before_elements ps more)

abbrev pub before_members : List Entry → Members → Members
before_members [] more = more
before_members (m ∷ ms) more = member m.left m.name m.value (before_members ms more)

pub elements-push : (ps : List Located) (x : Located) (more : Elements) → before_elements (ps ++ x ∷ []) more ≡ before_elements ps (element x more)
elements-push [] x more = refl
elements-push (p ∷ ps) x more = ap (element p) (elements-push ps x more)

pub members-push : (ms : List Entry) (x : Entry) (more : Members) → before_members (ms ++ x ∷ []) more ≡ before_members ms (member x.left x.name x.value more)
members-push [] x more = refl
members-push (m ∷ ms) x more = ap (member m.left m.name m.value) (members-push ms x more)

-- ---- the earlier of two offsets

pub earlier-comm : (a b : Option ℕ) → earlier a b ≡ earlier b a
earlier-comm None None = refl
earlier-comm None (Some b) = refl
earlier-comm (Some a) None = refl
earlier-comm (Some a) (Some b) = let e : max a b ≡ max b a = omega arith in ap Some e

pub earlier-assoc : (a b c : Option ℕ) → earlier (earlier a b) c ≡ earlier a (earlier b c)
earlier-assoc a b None = refl
earlier-assoc a None (Some c) = refl
earlier-assoc None (Some b) (Some c) = refl
earlier-assoc (Some a) (Some b) (Some c) = let e : max (max a b) c ≡ max a (max b c) = omega arith in ap Some e

pub none-earlier : (a : Option ℕ) → earlier None a ≡ a
none-earlier None = refl
none-earlier (Some a) = refl

pub earliest-append : (xs ys : List ℕ) → earliest (xs ++ ys) ≡ earlier (earliest xs) (earliest ys)
earliest-append [] ys = sym (none-earlier (earliest ys))
earliest-append (x ∷ xs) ys = ap (earlier (Some x)) (earliest-append xs ys) ∙ sym (earlier-assoc (Some x) (earliest xs) (earliest ys))

-- after what is known, both
both : (a : Option ℕ) (xs ys : List ℕ) → earlier (earlier a (earliest xs)) (earliest ys) ≡ earlier a (earliest (xs ++ ys))
both a xs ys = earlier-assoc a (earliest xs) (earliest ys) ∙ ap (earlier a) (sym (earliest-append xs ys))

pub flaws_same : (a b c d : Option ℕ) → a ≡ b → c ≡ d → ◌≡◌ {A = Flaws} (record { repeated = a; out_of_range = c }) (record { repeated = b; out_of_range = d })
flaws_same a b c d e f = ap (λ z. record { repeated = z; out_of_range = c }) e ∙ ap (λ z. record { repeated = b; out_of_range = z }) f

-- ---- arrays

abbrev pub noted_all : Flaws → List Located → Flaws
noted_all flaws [] = flaws
noted_all flaws (p ∷ ps) = noted_all (noted flaws p) ps

pub noted_all-push : (flaws : Flaws) (ps : List Located) (x : Located) → noted_all flaws (ps ++ x ∷ []) ≡ noted (noted_all flaws ps) x
noted_all-push flaws [] x = refl
noted_all-push flaws (p ∷ ps) x = noted_all-push (noted flaws p) ps x

pub noted_all-array : (flaws : Flaws) (ps : List Located) → noted_all flaws ps ≡ noted flaws (array (before_elements ps no_elements))
noted_all-array flaws [] = refl
noted_all-array flaws (p ∷ ps) =
    let more = before_elements ps no_elements in
    noted_all-array (noted flaws p) ps
    ∙ flaws_same _ _ _ _ (both flaws.repeated (repeated_names p) (repeated_in_elements more)) (both flaws.out_of_range (out_of_range_numbers p) (out_of_range_in_elements more))

-- ---- objects

abbrev pub noted_entries : Flaws → List Entry → Flaws
noted_entries flaws [] = flaws
noted_entries flaws (m ∷ ms) = noted_entries (noted_entry flaws m) ms

pub noted_entries-push : (flaws : Flaws) (ms : List Entry) (x : Entry) → noted_entries flaws (ms ++ x ∷ []) ≡ noted_entry (noted_entries flaws ms) x
noted_entries-push flaws [] x = refl
noted_entries-push flaws (m ∷ ms) x = noted_entries-push (noted_entry flaws m) ms x

out_of_range_entries : (flaws : Flaws) (ms : List Entry) → (noted_entries flaws ms).out_of_range ≡ earlier flaws.out_of_range (earliest (out_of_range_in_members (before_members ms no_members)))
out_of_range_entries flaws [] = refl
out_of_range_entries flaws (m ∷ ms) = out_of_range_entries (noted_entry flaws m) ms ∙ both flaws.out_of_range (out_of_range_numbers m.value) (out_of_range_in_members (before_members ms no_members))

-- a name's own offset may come last
last_first : (x o r a v rest : Option ℕ) → earlier x r ≡ earlier (earlier a v) rest → earlier x (earlier o r) ≡ earlier a (earlier o (earlier v rest))
last_first x o r a v rest e =
    ap (earlier x) (earlier-comm o r) ∙ sym (earlier-assoc x r o) ∙ ap (λ z. earlier z o) (e ∙ earlier-assoc a v rest) ∙ earlier-assoc a (earlier v rest) o ∙ ap (earlier a) (earlier-comm (earlier v rest) o)

repeated_entries : (names : List (List ℕ)) (flaws : Flaws) (ms : List Entry)
    → earlier (noted_entries flaws ms).repeated (earliest (repeated_among names (map (λ m. m.name) ms) (map (λ m. m.left) ms))) ≡ earlier flaws.repeated (earliest (repeated_in_members names (before_members ms no_members)))
repeated_entries names flaws [] = refl
repeated_entries names flaws (m ∷ ms) =
    let own : List ℕ = if is_among m.name names then m.left ∷ [] else [] in
    let later = repeated_among (m.name ∷ names) (map (λ n. n.name) ms) (map (λ n. n.left) ms) in
    let rest = repeated_in_members (m.name ∷ names) (before_members ms no_members) in
    let values = repeated_names m.value in
    let x = (noted_entries (noted_entry flaws m) ms).repeated in
    ap (earlier x) (earliest-append own later)
    ∙ last_first x (earliest own) (earliest later) flaws.repeated (earliest values) (earliest rest) (repeated_entries (m.name ∷ names) (noted_entry flaws m) ms)
    ∙ ap (λ z. earlier flaws.repeated (earlier (earliest own) z)) (sym (earliest-append values rest)) ∙ ap (earlier flaws.repeated) (sym (earliest-append own (values ++ rest)))

pub noted_entries-object : (flaws : Flaws) (ms : List Entry)
    → ◌≡◌ {A = Flaws} (record { repeated = earlier (noted_entries flaws ms).repeated (earliest (repeated_among [] (map (λ m. m.name) ms) (map (λ m. m.left) ms))); out_of_range = (noted_entries flaws ms).out_of_range })
    (noted flaws (object (before_members ms no_members)))
noted_entries-object flaws ms = flaws_same _ _ _ _ (repeated_entries [] flaws ms) (out_of_range_entries flaws ms)
