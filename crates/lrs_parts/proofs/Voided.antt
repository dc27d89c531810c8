-- The trees of statements that come, and of those that they void: how they are read, and that each is found.
use Rattle.std.proofs.Common.{◌≡◌, ◌<◌, ◌+◌, zero, suc, ℕ, List, [], ◌∷◌, ◌++◌, length, get_or, take, refl, sym, ◌∙◌, ap, subst, true≢false, Option, Some, None, Bool, true, false, cond, slice_get}
use Rattle.std.specs.Prelude.{option_and_then, position, find, is_some}
use Rattle.std.specs.List.{AllByRecursion}
use Rattle.std.specs.Option.{option_or}
use Rattle.std.specs.Str.{bytes_eq}
use Rattle.std.proofs.lemmas.List.{take_more}
use Rattle.std.proofs.lemmas.Option.{cond_some, none-some, same_Some, slice_get_read}
use Rattle.lrs_ids.specs.Ids.{are_distinct}
use Rattle.lrs_parts.specs.Trees.{AreTargets, voided_in}
use Rattle.lrs_parts.proofs.Events.{bytes_same, index_of_id, same_bytes}
use Rattle.lrs_register.specs.Register.{with_new}
use Rattle.xapi_statement.specs.Statements.{add, add_each, held_under, ids_of, is_held, is_that_id, voided_by, voids}
use Rattle.cmi5_running_verdicts.specs.XapiIndexAddingProofs.{add-new, add-old}
use Rattle.lrs_register.proofs.Firsts.{item-at}
use Rattle.xapi_statement.specs.Stored.{StoredStatement}

-- ---- lists

-- what holds of each holds of the one at an index
pub each_at : {A : Type 0} (P : A → Type 0) (xs : List A) (k : ℕ) (x : A) → AllByRecursion P xs → slice_get xs k ≡ Some x → P x
each_at P [] k x each is = absurd (none-some x is)
each_at P (y ∷ xs) zero x each is = subst P (same_Some y x is) each.0
each_at P (y ∷ xs) (suc k) x each is = each_at P xs k x each.1 is

each_more : {A : Type 0} (P : A → Type 0) (xs : List A) (x : A) → AllByRecursion P xs → P x → AllByRecursion P (xs ++ x ∷ [])
each_more P [] x each one = (one, tt)
each_more P (y ∷ xs) x each one = (each.0, each_more P xs x each.1 one)

each_still : {A : Type 0} (P Q : A → Type 0) → ((x : A) → P x → Q x) → (xs : List A) → AllByRecursion P xs → AllByRecursion Q xs
each_still P Q still [] each = tt
each_still P Q still (x ∷ xs) each = (still x each.0, each_still P Q still xs each.1)

pub some_item : {A : Type 0} (o : Option A) → is_some o ≡ true → (x : A) × (o ≡ Some x)
some_item None is = absurd (true≢false (sym is))
some_item (Some x) is = (x, refl)

-- ---- the first of an id

pub first_passes : (id : List ℕ) (x : StoredStatement) (xs : List StoredStatement) → bytes_eq x.id id ≡ true → held_under id (x ∷ xs) ≡ Some x
first_passes id x xs is = ap (λ (b : Bool). cond b (Some x) (held_under id xs)) is

pub first_fails : (id : List ℕ) (x : StoredStatement) (xs : List StoredStatement) → bytes_eq x.id id ≡ false → held_under id (x ∷ xs) ≡ held_under id xs
first_fails id x xs is = ap (λ (b : Bool). cond b (Some x) (held_under id xs)) is

-- in two lists, one behind the other
found_behind : {A : Type 0} (p : A → Bool) (xs ys : List A) → find p (xs ++ ys) ≡ option_or (find p xs) (find p ys)
found_behind p [] ys = refl
found_behind {A} p (x ∷ xs) ys = by_test (p x) (found_behind p xs ys)
  where
    by_test : (b : Bool) → find p (xs ++ ys) ≡ option_or (find p xs) (find p ys) → cond b (Some x) (find p (xs ++ ys)) ≡ option_or (cond b (Some x) (find p xs)) (find p ys)
    by_test true more = refl
    by_test false more = more

under_push : (id : List ℕ) (xs : List StoredStatement) (s : StoredStatement) → held_under id (xs ++ s ∷ []) ≡ option_or (held_under id xs) (cond (bytes_eq s.id id) (Some s) None)
under_push id xs s = found_behind (λ (u : StoredStatement). bytes_eq u.id id) xs (s ∷ [])

-- what is found has the id
under_id : (id : List ℕ) (xs : List StoredStatement) (t : StoredStatement) → held_under id xs ≡ Some t → t.id ≡ id
under_id id [] t is = absurd (none-some t is)
under_id id (x ∷ xs) t is = by_test (bytes_eq x.id id) refl (λ more. under_id id xs t more) is
  where
    by_test : (b : Bool) → bytes_eq x.id id ≡ b → (held_under id xs ≡ Some t → t.id ≡ id) → cond b (Some x) (held_under id xs) ≡ Some t → t.id ≡ id
    by_test true same behind is = ap (λ (u : StoredStatement). u.id) (sym (same_Some x t is)) ∙ same_bytes x.id id same
    by_test false other behind is = behind is

-- where one comes whose id is held, another one's tells no more
same_or : (id : List ℕ) (held : List StoredStatement) (x : StoredStatement) (o : Option StoredStatement) → is_held x.id held ≡ true
    → option_or (held_under id held) o ≡ option_or (held_under id held) (cond (bytes_eq x.id id) (Some x) o)
same_or id held x o there = by_test (bytes_eq x.id id) refl
  where
    by_found : (f : Option StoredStatement) → is_some f ≡ true → option_or f o ≡ option_or f (Some x)
    by_found None is = absurd (true≢false (sym is))
    by_found (Some y) is = refl

    by_test : (b : Bool) → bytes_eq x.id id ≡ b → option_or (held_under id held) o ≡ option_or (held_under id held) (cond b (Some x) o)
    by_test true same = by_found (held_under id held) (sym (ap (λ (i : List ℕ). is_held i held) (same_bytes x.id id same)) ∙ there)
    by_test false other = refl

joined : (f o : Option StoredStatement) (b : Bool) (x : StoredStatement) → option_or (option_or f (cond b (Some x) None)) o ≡ option_or f (cond b (Some x) o)
joined (Some y) o b x = refl
joined None o true x = refl
joined None o false x = refl

-- of what is added: among those that were held, or else among those that come
under_added : (id : List ℕ) (held xs : List StoredStatement) → held_under id (add_each held xs) ≡ option_or (held_under id held) (held_under id xs)
under_added id held [] = by_found (held_under id held)
  where
    by_found : (f : Option StoredStatement) → f ≡ option_or f None
    by_found None = refl
    by_found (Some y) = refl
under_added id held (x ∷ xs) = under_added id (add held x) xs ∙ by_held (is_held x.id held) refl
  where
    by_held : (b : Bool) → is_held x.id held ≡ b → option_or (held_under id (add held x)) (held_under id xs) ≡ option_or (held_under id held) (cond (bytes_eq x.id id) (Some x) (held_under id xs))
    by_held true there =
        ap (λ (ys : List StoredStatement). option_or (held_under id ys) (held_under id xs)) (add-old held x there) ∙ same_or id held x (held_under id xs) there
    by_held false new =
        ap (λ (ys : List StoredStatement). option_or (held_under id ys) (held_under id xs)) (add-new held x new)
        ∙ (ap (λ (f : Option StoredStatement). option_or f (held_under id xs)) (under_push id held x) ∙ joined (held_under id held) (held_under id xs) (bytes_eq x.id id) x)

-- ---- found

voided_added : (held xs : List StoredStatement) (s : StoredStatement) → voided_in (add_each held xs) s ≡ option_or (voided_in held s) (voided_in xs s)
voided_added held xs s = by_target (voided_by s)
  where
    by_target : (o : Option (List ℕ)) → option_and_then (λ (id : List ℕ). held_under id (add_each held xs)) o
        ≡ option_or (option_and_then (λ (id : List ℕ). held_under id held) o) (option_and_then (λ (id : List ℕ). held_under id xs) o)
    by_target None = refl
    by_target (Some id) = under_added id held xs

-- the tree of what one of those that came voids
pub tree_found : (trees held coming all : List StoredStatement) → all ≡ add_each held coming → AreTargets trees held coming → (i : ℕ) (x : StoredStatement) → i < length coming
    → x ≡ get_or coming i x → option_or (voided_in trees x) (voided_in coming x) ≡ voided_in all x
tree_found trees held coming all added are i x less is =
    ap (λ (f : Option StoredStatement). option_or f (voided_in coming x))
    (each_at (λ (s : StoredStatement). voided_in trees s ≡ voided_in held s) coming i x are (slice_get_read coming (length coming) i x refl less is))
    ∙ (sym (voided_added held coming x) ∙ ap (λ (ys : List StoredStatement). voided_in ys x) (sym added))

-- the one that it voids stands under its id
pub voided_there : (all : List StoredStatement) (s t : StoredStatement) (q : ℕ) → are_distinct (ids_of all) ≡ true → slice_get all q ≡ Some t → voids t.id s ≡ true → voided_in all s ≡ Some t
voided_there all s t q distinct at is = by_target (voided_by s) is
  where
    there : held_under t.id all ≡ Some t
    there =
        sym (item-at (λ (u : StoredStatement). bytes_eq u.id t.id) all (position (λ (u : StoredStatement). bytes_eq u.id t.id) all) q (index_of_id all distinct q t at) refl) ∙ at

    by_target : (o : Option (List ℕ)) → is_that_id t.id o ≡ true → option_and_then (λ (id : List ℕ). held_under id all) o ≡ Some t
    by_target None is = absurd (true≢false (sym is))
    by_target (Some id) is = ap (λ (i : List ℕ). held_under i all) (same_bytes id t.id is) ∙ there

-- ---- read

-- The trees are those of held statements, and what each of these voids is among them.
pub record AreRead (trees held those : List StoredStatement) : Type 0 where
  pub only : (id : List ℕ) → (t : StoredStatement) → held_under id trees ≡ Some t → held_under id held ≡ Some t
  pub are : AreTargets trees held those

pub none_read : (trees held : List StoredStatement) → trees ≡ [] → AreRead trees held []
none_read trees held none = record {
  only = λ id t is. absurd (none-some t (sym (ap (λ (ts : List StoredStatement). held_under id ts) none) ∙ is));
  are = tt;
}

-- one more is read: nothing else is found under other ids
only_more : (trees held : List StoredStatement) (t : StoredStatement) → held_under t.id held ≡ Some t
    → ((id : List ℕ) (u : StoredStatement) → held_under id trees ≡ Some u → held_under id held ≡ Some u)
    → (id : List ℕ) (u : StoredStatement) → held_under id (trees ++ t ∷ []) ≡ Some u → held_under id held ≡ Some u
only_more trees held t there only id u is = by_found (held_under id trees) refl (sym (under_push id trees t) ∙ is)
  where
    by_found : (f : Option StoredStatement) → held_under id trees ≡ f → option_or f (cond (bytes_eq t.id id) (Some t) None) ≡ Some u → held_under id held ≡ Some u
    by_found (Some v) found is = only id u (found ∙ is)
    by_found None found is =
        let both : (bytes_eq t.id id ≡ true) × (t ≡ u) = cond_some (bytes_eq t.id id) t u is in
        ap (λ (i : List ℕ). held_under i held) (sym (same_bytes t.id id both.0)) ∙ (there ∙ ap (λ (v : StoredStatement). Some v) both.1)

-- what was found as it is held is so still
still_found : (trees held : List StoredStatement) (t : StoredStatement) → held_under t.id held ≡ Some t → (id : List ℕ) → held_under id trees ≡ held_under id held
    → held_under id (trees ++ t ∷ []) ≡ held_under id held
still_found trees held t there id same =
    under_push id trees t ∙ (ap (λ (f : Option StoredStatement). option_or f (cond (bytes_eq t.id id) (Some t) None)) same ∙ by_held (held_under id held) refl)
  where
    by_test : (b : Bool) → bytes_eq t.id id ≡ b → held_under id held ≡ None → cond b (Some t) None ≡ None
    by_test true is none = absurd (none-some t (sym none ∙ (ap (λ (i : List ℕ). held_under i held) (sym (same_bytes t.id id is)) ∙ there)))
    by_test false is none = refl

    by_held : (f : Option StoredStatement) → held_under id held ≡ f → option_or f (cond (bytes_eq t.id id) (Some t) None) ≡ f
    by_held (Some v) is = refl
    by_held None is = by_test (bytes_eq t.id id) refl is

-- and so is the one that is read
new_found : (trees held : List StoredStatement) (t : StoredStatement) → held_under t.id held ≡ Some t
    → ((id : List ℕ) (u : StoredStatement) → held_under id trees ≡ Some u → held_under id held ≡ Some u) → held_under t.id (trees ++ t ∷ []) ≡ held_under t.id held
new_found trees held t there only = under_push t.id trees t ∙ by_found (held_under t.id trees) refl
  where
    by_found : (f : Option StoredStatement) → held_under t.id trees ≡ f → option_or f (cond (bytes_eq t.id t.id) (Some t) None) ≡ held_under t.id held
    by_found (Some v) found = sym (only t.id v found)
    by_found None found = ap (λ (b : Bool). cond b (Some t) None) (bytes_same t.id t.id refl) ∙ sym there

-- what a statement voids
voided_id : (held : List StoredStatement) (s t : StoredStatement) → voided_in held s ≡ Some t → (voided_by s ≡ Some t.id) × (held_under t.id held ≡ Some t)
voided_id held s t is = by_target (voided_by s) is
  where
    by_target : (o : Option (List ℕ)) → option_and_then (λ (id : List ℕ). held_under id held) o ≡ Some t → (o ≡ Some t.id) × (held_under t.id held ≡ Some t)
    by_target None is = absurd (none-some t is)
    by_target (Some id) is =
        let same : t.id ≡ id = under_id id held t is in
        (ap (λ (i : List ℕ). Some i) (sym same), ap (λ (i : List ℕ). held_under i held) same ∙ is)

none_voided : (trees held : List StoredStatement) (s : StoredStatement) → ((id : List ℕ) (u : StoredStatement) → held_under id trees ≡ Some u → held_under id held ≡ Some u)
    → voided_in held s ≡ None → voided_in trees s ≡ None
none_voided trees held s only none = by_target (voided_by s) none
  where
    by_found : (id : List ℕ) → held_under id held ≡ None → (f : Option StoredStatement) → held_under id trees ≡ f → f ≡ None
    by_found id none None found = refl
    by_found id none (Some v) found = absurd (none-some v (sym none ∙ only id v found))

    by_target : (o : Option (List ℕ)) → option_and_then (λ (id : List ℕ). held_under id held) o ≡ None → option_and_then (λ (id : List ℕ). held_under id trees) o ≡ None
    by_target None none = refl
    by_target (Some id) none = by_found id none (held_under id trees) refl

still_voided : (trees held : List StoredStatement) (t : StoredStatement) → held_under t.id held ≡ Some t → (s : StoredStatement) → voided_in trees s ≡ voided_in held s
    → voided_in (trees ++ t ∷ []) s ≡ voided_in held s
still_voided trees held t there s same = by_target (voided_by s) same
  where
    by_target : (o : Option (List ℕ)) → option_and_then (λ (id : List ℕ). held_under id trees) o ≡ option_and_then (λ (id : List ℕ). held_under id held) o
        → option_and_then (λ (id : List ℕ). held_under id (trees ++ t ∷ [])) o ≡ option_and_then (λ (id : List ℕ). held_under id held) o
    by_target None same = refl
    by_target (Some id) same = still_found trees held t there id same

-- what one more voids is read, if it is held
read_more : (trees new held those : List StoredStatement) (s : StoredStatement) → new ≡ with_new trees (voided_in held s) → AreRead trees held those → AreRead new held (those ++ s ∷ [])
read_more trees new held those s is read = subst (λ (ts : List StoredStatement). AreRead ts held (those ++ s ∷ [])) (sym is) (by_found (voided_in held s) refl)
  where
    by_found : (f : Option StoredStatement) → voided_in held s ≡ f → AreRead (with_new trees f) held (those ++ s ∷ [])
    by_found None none = record {
      only = read.only;
      are = each_more (λ (u : StoredStatement). voided_in trees u ≡ voided_in held u) those s read.are (none_voided trees held s read.only none ∙ sym none);
    }
    by_found (Some t) found =
        let both : (voided_by s ≡ Some t.id) × (held_under t.id held ≡ Some t) = voided_id held s t found in
        record {
          only = only_more trees held t both.1 read.only;
          are = each_more (λ (u : StoredStatement). voided_in (trees ++ t ∷ []) u ≡ voided_in held u) those s
              (each_still (λ (u : StoredStatement). voided_in trees u ≡ voided_in held u) (λ (u : StoredStatement). voided_in (trees ++ t ∷ []) u ≡ voided_in held u)
              (λ u same. still_voided trees held t both.1 u same) those read.are)
              (ap (λ (o : Option (List ℕ)). option_and_then (λ (id : List ℕ). held_under id (trees ++ t ∷ [])) o) both.0
              ∙ (new_found trees held t both.1 read.only ∙ sym (ap (λ (o : Option (List ℕ)). option_and_then (λ (id : List ℕ). held_under id held) o) both.0)));
        }

pub read_on : (trees new held coming : List StoredStatement) (i : ℕ) (s : StoredStatement) → i < length coming → s ≡ get_or coming i s → new ≡ with_new trees (voided_in held s)
    → AreRead trees held (take i coming) → AreRead new held (take (i + 1) coming)
read_on trees new held coming i s less is more read =
    subst (λ (those : List StoredStatement). AreRead new held those) (sym (take_more coming i s less ∙ ap (λ (u : StoredStatement). take i coming ++ u ∷ []) (sym is)))
    (read_more trees new held (take i coming) s more read)
