-- Statements that are added: those that are held already change nothing.
use Rattle.std.proofs.Common.{◌≡◌, ◌+◌, ◌<◌, ◌≤◌, List, ℕ, [], ◌∷◌, ◌++◌, length, get_or, take, append_assoc, append-nil, arith, refl, sym, ◌∙◌, ap, Some, Bool, true, false}
use Rattle.std.specs.Prelude.{is_some, find, cond, if◌then◌else◌}
use Rattle.std.specs.Str.{bytes_eq}
use Rattle.std.proofs.lemmas.List.{length-append, length_push, take_more}
use Rattle.xapi_postings.specs.XapiStatementStored.{StoredStatement}
use Rattle.xapi_postings.specs.XapiStatementStatements.{add, add_each, is_held, new_ones}

found-append : {A : Type 0} (p : A → Bool) (xs ys : List A) → is_some (find p xs) ≡ true → is_some (find p (xs ++ ys)) ≡ true
found-append p [] ys is = cc is
found-append {A} p (x ∷ xs) ys is = by_test (p x) (λ rest. found-append p xs ys rest) is
  where
    by_test : (b : Bool) → (is_some (find p xs) ≡ true → is_some (find p (xs ++ ys)) ≡ true)
        → is_some (cond b (Some x) (find p xs)) ≡ true → is_some (cond b (Some x) (find p (xs ++ ys))) ≡ true
    by_test true more is = refl
    by_test false more is = more is

-- what is held stays held
pub is_held-append : (id : List ℕ) (held more : List StoredStatement) → is_held id held ≡ true → is_held id (held ++ more) ≡ true
is_held-append id held more is = found-append (λ (s : StoredStatement). bytes_eq s.id id) held more is

pub is_held-add : (id : List ℕ) (held : List StoredStatement) (s : StoredStatement) → is_held id held ≡ true → is_held id (add held s) ≡ true
is_held-add id held s is = by_test (is_held s.id held)
  where
    by_test : (b : Bool) → is_held id (if b then held else held ++ s ∷ []) ≡ true
    by_test true = is
    by_test false = is_held-append id held (s ∷ []) is

pub add-old : (held : List StoredStatement) (s : StoredStatement) → is_held s.id held ≡ true → add held s ≡ held
add-old held s is = ap (λ b. if b then held else held ++ s ∷ []) is

pub add-new : (held : List StoredStatement) (s : StoredStatement) → is_held s.id held ≡ false → add held s ≡ held ++ s ∷ []
add-new held s is = ap (λ b. if b then held else held ++ s ∷ []) is

each_new : (held more xs : List StoredStatement) → ((id : List ℕ) → is_held id held ≡ true → is_held id more ≡ true) → add_each more (new_ones held xs) ≡ add_each more xs
each_new held more [] keeps = refl
each_new held more (x ∷ xs) keeps =
    by_test (is_held x.id held) (each_new held more xs keeps) (each_new held (add more x) xs (λ id there. is_held-add id more x (keeps id there))) refl
  where
    by_test : (b : Bool) → add_each more (new_ones held xs) ≡ add_each more xs → add_each (add more x) (new_ones held xs) ≡ add_each (add more x) xs
        → is_held x.id held ≡ b → add_each more (if b then new_ones held xs else x ∷ new_ones held xs) ≡ add_each (add more x) xs
    by_test true old new is = old ∙ ap (λ m. add_each m xs) (sym (add-old more x (keeps x.id is)))
    by_test false old new is = new

-- those that are held needn't be looked at
pub add_each-new : (held xs : List StoredStatement) → add_each held (new_ones held xs) ≡ add_each held xs
add_each-new held xs = each_new held held xs (λ id is. is)

-- ---- one after the other

pub add_each-append : (held xs ys : List StoredStatement) → add_each held (xs ++ ys) ≡ add_each (add_each held xs) ys
add_each-append held [] ys = refl
add_each-append held (x ∷ xs) ys = add_each-append (add held x) xs ys

pub add_each-more : (held xs : List StoredStatement) (i : ℕ) (x : StoredStatement) → i < length xs → x ≡ get_or xs i x → add_each held (take (i + 1) xs) ≡ add (add_each held (take i xs)) x
add_each-more held xs i x less is =
    ap (λ ys. add_each held ys) (take_more xs i x less) ∙ (add_each-append held (take i xs) (get_or xs i x ∷ []) ∙ ap (λ y. add (add_each held (take i xs)) y) (sym is))

-- the list begins with that one
abbrev BeginsWith : List StoredStatement → List StoredStatement → Type 0
BeginsWith front all = (more : List StoredStatement) × (all ≡ front ++ more)

-- what is added stands behind the others
pub extends : (held xs : List StoredStatement) → BeginsWith held (add_each held xs)
extends held [] = ([], sym (append-nil held))
extends held (x ∷ xs) = by_test (is_held x.id held) (extends held xs) (extends (held ++ x ∷ []) xs)
  where
    by_test : (b : Bool) → BeginsWith held (add_each held xs) → BeginsWith (held ++ x ∷ []) (add_each (held ++ x ∷ []) xs) → BeginsWith held (add_each (if b then held else held ++ x ∷ []) xs)
    by_test true old new = old
    by_test false old new = (x ∷ new.0, new.1 ∙ append_assoc held (x ∷ []) new.0)

-- ---- how many are added

added_few : (held xs : List StoredStatement) → length (add_each held xs) ≤ length held + length xs
added_few held [] = omega arith
added_few held (x ∷ xs) = by_test (is_held x.id held) (added_few held xs) (added_few (held ++ x ∷ []) xs)
  where
    by_test : (b : Bool) → length (add_each held xs) ≤ length held + length xs → length (add_each (held ++ x ∷ []) xs) ≤ length (held ++ x ∷ []) + length xs
        → length (add_each (if b then held else held ++ x ∷ []) xs) ≤ length held + length (x ∷ xs)
    by_test true old new = let few : length (add_each held xs) ≤ length held + length (x ∷ xs) = omega (arith, old) in few
    by_test false old new = let few : length (add_each (held ++ x ∷ []) xs) ≤ length held + length (x ∷ xs) = omega (arith, new, length_push held x) in few

-- no more are new than come
pub few_new : (held xs ahead : List StoredStatement) → add_each held xs ≡ held ++ ahead → length ahead ≤ length xs
few_new held xs ahead is = omega (arith, added_few held xs, ap (λ (ys : List StoredStatement). length ys) is, length-append held ahead)
