-- What an entry makes goes under ids of its own where there are ids left: all of it is held behind the entry.
use Rattle.std.proofs.Common.{◌≡◌, ◌≢◌, ℕ, suc, ◌+◌, ◌<◌, ◌≤◌, List, [], ◌∷◌, ◌++◌, length, Bool, true, false, ◌||◌, Option, Some, None, refl, sym, ap, subst, ◌∙◌, arith, append_assoc, append-nil}
use Rattle.std.specs.Prelude.{if◌then◌else◌}
use Rattle.std.specs.List.{AllByRecursion}
use Rattle.std.specs.Str.{bytes_eq}
use Rattle.std.specs.Cmp.Lexicographic.{same_text}
use Rattle.std.specs.Cmp.{first_so, second_so}
use Rattle.std.proofs.lemmas.Bool.{not-true, or_right}
use Rattle.std.proofs.lemmas.Cmp.{nat_list_eq_equiv}
use Rattle.lrs_history.specs.Made.{made_under}
use Rattle.lrs_ids.proofs.FreeWords.{Suffices, next_word}
use Rattle.lrs_ids.specs.Ids.{Supply, Used, are_distinct, free_word, made_id, rest_of}
use Rattle.lrs_json.specs.Json.{Json}
use Rattle.lrs_json.specs.Trees.{tree_of}
use Rattle.lrs_json.specs.View.{view}
use Rattle.lrs_json.specs.declared.tree.Tree.{Tree}
use Rattle.lrs_laws.proofs.Keepers.{held_one, left_false}
use Rattle.lrs_laws.proofs.LaunchLaws.{different, unheld_each}
use Rattle.lrs_laws.proofs.NewIds.{Given, counted, here, nth_free, nth_other}
use Rattle.lrs_laws.proofs.WholeBatches.{each_both, others, unheld_add}
use Rattle.lrs_names.specs.Ids.{id_of_word}
use Rattle.lrs_names.specs.Members.{is_one_of}
use Rattle.lrs_state.specs.Launches.{session_ids}
use Rattle.lrs_state.specs.Registrations.{registration_ids}
use Rattle.lrs_state.specs.Sessions.{made_session_ids}
use Rattle.lrs_state.specs.State.{State, used_in}
use Rattle.xapi_format.specs.declared.authority.Authority.{Authority}
use Rattle.xapi_format.specs.declared.authority.Authority.TheVariants.{Desk}
use Rattle.xapi_index.proofs.Adding.{add-new}
use Rattle.xapi_index.specs.Batches.{WithId, given_ids, held_of, id_for, ids_under, kept_by, supply_after, supply_behind, with_given, with_ids}
use Rattle.xapi_statement.specs.Statements.{add_each, ids_of, is_held, new_ones}
use Rattle.xapi_statement.specs.Statement.{own_id}
use Rattle.xapi_statement.specs.Stored.{StoredStatement}

-- ---- what is made is held

-- of so many ids nothing is held under one, and no two are the same
pub record AreFresh (held : List StoredStatement) (supply : Supply) (n : ℕ) : Type 0 where
  pub unheld : (k : ℕ) → k < n → is_held (supply k) held ≡ false
  pub apart : (j k : ℕ) → j < k → k < n → supply j ≢ supply k

-- behind one that goes under the first the others are left
pub fresh_next : (held : List StoredStatement) (supply : Supply) (moment n : ℕ) (j : Json) → AreFresh held supply (suc n) → AreFresh (held ++ made_under supply moment (j ∷ [])) (rest_of supply) n
fresh_next held supply moment n j fresh = record {
  unheld = λ k less. sym (ap (λ l. is_held (supply (suc k)) l) (add-new held s new))
      ∙ unheld_add held s (supply (suc k)) new (different s.id (supply (suc k)) (fresh.apart 0 (suc k) (omega arith) (omega (arith, less)))) (fresh.unheld (suc k) (omega (arith, less)));
  apart = λ j k low high. fresh.apart (suc j) (suc k) (omega (arith, low)) (omega (arith, high));
}
  where
    s : StoredStatement
    s = held_of moment Desk (record { id = supply 0; tree = tree_of j })

    new : is_held s.id held ≡ false
    new = fresh.unheld 0 (omega arith)

pub all_added : (held : List StoredStatement) (supply : Supply) (moment : ℕ) (js : List Json) → AreFresh held supply (length js)
    → add_each held (made_under supply moment js) ≡ held ++ made_under supply moment js
all_added held supply moment [] fresh = sym (append-nil held)
all_added held supply moment (j ∷ js) fresh =
    let s : StoredStatement = held_of moment Desk (record { id = supply 0; tree = tree_of j }) in
    let rest : List StoredStatement = made_under (rest_of supply) moment js in
    ap (λ l. add_each l rest) (add-new held s (fresh.unheld 0 (omega arith)))
    ∙ (all_added (held ++ s ∷ []) (rest_of supply) moment js (fresh_next held supply moment (length js) j fresh) ∙ append_assoc held (s ∷ []) rest)

pub fresh_fewer : (held : List StoredStatement) (supply : Supply) (n less : ℕ) → less ≤ n → AreFresh held supply n → AreFresh held supply less
fresh_fewer held supply n less fits fresh = record {
  unheld = λ k low. fresh.unheld k (omega (arith, low, fits));
  apart = λ j k low high. fresh.apart j k low (omega (arith, high, fits));
}

-- ---- statements that come together

-- they are held as they come, where no two have one id
news_added : (held more : List StoredStatement) (moment : ℕ) (by : Authority) (ns : List WithId) → are_distinct (ids_under ns) ≡ true
    → AllByRecursion (λ (n : WithId). is_held n.id held ≡ false → is_held n.id more ≡ false) ns
    → add_each more (new_ones held (kept_by moment (Some by) ns)) ≡ more ++ new_ones held (kept_by moment (Some by) ns)
news_added held more moment by [] apart free = sym (append-nil more)
news_added held more moment by (n ∷ ns) apart free =
    by_held (is_held n.id held) refl (news_added held more moment by ns distinct free.1) (λ new. news_added held (more ++ s ∷ []) moment by ns distinct (still new))
  where
    s : StoredStatement
    s = held_of moment by n

    rest : List StoredStatement
    rest = new_ones held (kept_by moment (Some by) ns)

    distinct : are_distinct (ids_under ns) ≡ true
    distinct = second_so _ (are_distinct (ids_under ns)) apart

    still : is_held n.id more ≡ false → AllByRecursion (λ (m : WithId). is_held m.id held ≡ false → is_held m.id (more ++ s ∷ []) ≡ false) ns
    still new =
        each_both (λ (m : WithId). bytes_eq m.id n.id ≡ false) (λ (m : WithId). is_held m.id held ≡ false → is_held m.id more ≡ false) (λ (m : WithId). is_held m.id held ≡ false → is_held m.id (more ++ s ∷ []) ≡ false)
        (λ m other before none. sym (ap (λ l. is_held m.id l) (add-new more s new)) ∙ unheld_add more s m.id new (nat_list_eq_equiv.symm n.id m.id ∙ other) (before none)) ns
        (others n.id ns (not-true (is_one_of (ids_under ns) n.id) (first_so _ (are_distinct (ids_under ns)) apart))) free.1

    by_held : (b : Bool) → is_held n.id held ≡ b → add_each more rest ≡ more ++ rest → (is_held n.id more ≡ false → add_each (more ++ s ∷ []) rest ≡ (more ++ s ∷ []) ++ rest)
        → add_each more (if b then rest else s ∷ rest) ≡ more ++ (if b then rest else s ∷ rest)
    by_held true there old new = old
    by_held false none old new = ap (λ l. add_each l rest) (add-new more s (free.0 none)) ∙ (new (free.0 none) ∙ append_assoc more (s ∷ []) rest)

pub all_news_added : (held : List StoredStatement) (moment : ℕ) (o : Option Authority) (ns : List WithId) → are_distinct (ids_under ns) ≡ true
    → add_each held (new_ones held (kept_by moment o ns)) ≡ held ++ new_ones held (kept_by moment o ns)
all_news_added held moment None ns apart = sym (append-nil held)
all_news_added held moment (Some by) ns apart = news_added held held moment by ns apart (themselves ns)
  where
    themselves : (ms : List WithId) → AllByRecursion (λ (m : WithId). is_held m.id held ≡ false → is_held m.id held ≡ false) ms
    themselves [] = tt
    themselves (m ∷ ms) = (λ none. none, themselves ms)

news_elsewhere : (held : List StoredStatement) (moment : ℕ) (o : Option Authority) (ns : List WithId) (id : List ℕ) → is_one_of (ids_under ns) id ≡ false
    → AllByRecursion (λ (x : StoredStatement). bytes_eq x.id id ≡ false) (new_ones held (kept_by moment o ns))
news_elsewhere held moment None ns id none = tt
news_elsewhere held moment (Some by) ns id none = each ns (others id ns none)
  where
    each : (ms : List WithId) → AllByRecursion (λ (m : WithId). bytes_eq m.id id ≡ false) ms → AllByRecursion (λ (x : StoredStatement). bytes_eq x.id id ≡ false) (new_ones held (kept_by moment (Some by) ms))
    each [] apart = tt
    each (m ∷ ms) apart = by_held (is_held m.id held) (each ms apart.1)
      where
        rest : List StoredStatement
        rest = new_ones held (kept_by moment (Some by) ms)

        by_held : (b : Bool) → AllByRecursion (λ (x : StoredStatement). bytes_eq x.id id ≡ false) rest → AllByRecursion (λ (x : StoredStatement). bytes_eq x.id id ≡ false) (if b then rest else held_of moment by m ∷ rest)
        by_held true more = more
        by_held false more = (apart.0, more)

-- ---- ids that an entry makes

-- unused, and none of those
pub record AreUnused (st : State) (taken : List (List ℕ)) (supply : Supply) (n : ℕ) : Type 0 where
  pub unheld : (k : ℕ) → k < n → is_held (supply k) st.statements ≡ false
  pub elsewhere : (k : ℕ) → k < n → is_one_of taken (supply k) ≡ false
  pub apart : (j k : ℕ) → j < k → k < n → supply j ≢ supply k

pub made_unused : (st : State) (ids : List (List ℕ)) (most word n : ℕ) → Suffices (used_in st) ids most n → AreUnused st ids (made_id (used_in st) ids most word) n
made_unused st ids most word n fits = record {
  unheld = λ k less. held_one (made_id (used_in st) ids most word k) st.statements
      ∙ left_false (is_one_of (ids_of st.statements) (made_id (used_in st) ids most word k))
      (is_one_of (registration_ids st.registrations) (made_id (used_in st) ids most word k)
      || (is_one_of (session_ids st.launches) (made_id (used_in st) ids most word k) || is_one_of (made_session_ids st.made_sessions) (made_id (used_in st) ids most word k)))
      (nth_free (used_in st) (counted st) ids most word k (up_to k less)).0;
  elsewhere = λ k less. (nth_free (used_in st) (counted st) ids most word k (up_to k less)).1;
  apart = λ j k low high. nth_other (used_in st) (counted st) ids most word j k low (up_to k high);
}
  where
    up_to : (k : ℕ) → k < n → Suffices (used_in st) ids most (suc k)
    up_to k less = (fits.0, omega (arith, fits.1, less))

-- what is left of a supply behind a batch is one that takes all ids of the batch for used
record Behind (used : Used) (ids : List (List ℕ)) (supply : Supply) (taken : List (List ℕ)) (n : ℕ) : Type 0 where
  pub others : List (List ℕ)
  pub most : ℕ
  pub word : ℕ
  pub is : supply ≡ made_id used others most word
  pub fits : Suffices used others most n
  pub keeps : Given others ids
  pub holds : Given others taken

behind_batch : (used : Used) (ids : List (List ℕ)) (most word : ℕ) (ts : List Tree) (n : ℕ) → Suffices used ids most (length ts + n) → Given ids (given_ids ts)
    → Behind used ids (supply_after (made_id used ids most word) ts) (ids_under (with_ids (made_id used ids most word) ts)) n
behind_batch used ids most word [] n fits given =
    record { others = ids; most = most; word = word; is = refl; fits = (fits.0, omega (arith, fits.1)); keeps = λ g there. there; holds = λ g there. cc there }
behind_batch used ids most word (t ∷ ts) n fits given =
    by_own (own_id (view t)) given (λ more many after enough still. behind_batch used more many after ts n enough still)
  where
    id : List ℕ
    id = id_of_word (free_word used ids most word)

    next : ℕ
    next = next_word (free_word used ids most word)

    -- one of them first
    with_first : (more : List (List ℕ)) (supply : Supply) (first : List ℕ) (rest : List (List ℕ)) → is_one_of more first ≡ true → Given more ids → Behind used more supply rest n → Behind used ids supply (first ∷ rest) n
    with_first more supply first rest there all b = record {
      others = b.others;
      most = b.most;
      word = b.word;
      is = b.is;
      fits = b.fits;
      keeps = λ g among. b.keeps g (all g among);
      holds = λ g among. by_first g (bytes_eq first g) refl among;
    }
      where
        by_first : (g : List ℕ) (c : Bool) → bytes_eq first g ≡ c → c || is_one_of rest g ≡ true → is_one_of b.others g ≡ true
        by_first g true same either = subst (λ i. is_one_of b.others i ≡ true) (same_text first g (sym same)) (b.keeps first there)
        by_first g false other among = b.holds g among

    by_own : (o : Option (List ℕ)) → Given ids (with_given o (given_ids ts))
        → ((more : List (List ℕ)) (many after : ℕ) → Suffices used more many (length ts + n) → Given more (given_ids ts)
        → Behind used more (supply_after (made_id used more many after) ts) (ids_under (with_ids (made_id used more many after) ts)) n)
        → Behind used ids (supply_after (supply_behind (made_id used ids most word) o) ts) (id_for id o ∷ ids_under (with_ids (supply_behind (made_id used ids most word) o) ts)) n
    by_own None all rec =
        with_first (id ∷ ids) (supply_after (made_id used (id ∷ ids) (most + 1) next) ts) id (ids_under (with_ids (made_id used (id ∷ ids) (most + 1) next) ts)) (here id ids) (λ g among. or_right (bytes_eq id g) (is_one_of ids g) among)
        (rec (id ∷ ids) (most + 1) next (omega (arith, fits.0), omega (arith, fits.1)) (λ g among. or_right (bytes_eq id g) (is_one_of ids g) (all g among)))
    by_own (Some own) all rec =
        with_first ids (supply_after (made_id used ids most word) ts) own (ids_under (with_ids (made_id used ids most word) ts)) (all own (here own (given_ids ts))) (λ g among. among)
        (rec ids most word (fits.0, omega (arith, fits.1)) (λ g among. all g (or_right (bytes_eq own g) (is_one_of (given_ids ts) g) among)))

pub unused_behind : (st : State) (most word : ℕ) (ts : List Tree) (n : ℕ) → Suffices (used_in st) (given_ids ts) most (length ts + n)
    → AreUnused st (ids_under (with_ids (made_id (used_in st) (given_ids ts) most word) ts)) (supply_after (made_id (used_in st) (given_ids ts) most word) ts) n
unused_behind st most word ts n fits =
    let b = behind_batch (used_in st) (given_ids ts) most word ts n fits (λ g there. there) in
    let unused = made_unused st b.others b.most b.word n b.fits in
    subst (λ supply. AreUnused st (ids_under (with_ids (made_id (used_in st) (given_ids ts) most word) ts)) supply n) (sym b.is) (record {
      unheld = unused.unheld;
      elsewhere = λ k less. not_among (made_id (used_in st) b.others b.most b.word k) b.others (ids_under (with_ids (made_id (used_in st) (given_ids ts) most word) ts)) (unused.elsewhere k less) b.holds;
      apart = unused.apart;
    })
  where
    not_among : (id : List ℕ) (more taken : List (List ℕ)) → is_one_of more id ≡ false → Given more taken → is_one_of taken id ≡ false
    not_among id more taken none all = by_test (is_one_of taken id) refl
      where
        by_test : (c : Bool) → is_one_of taken id ≡ c → c ≡ false
        by_test true there = sym (all id there) ∙ none
        by_test false none_there = refl

-- so nothing is held under one behind new statements that have the others
pub fresh_behind : (st : State) (taken : List (List ℕ)) (supply : Supply) (n moment : ℕ) (o : Option Authority) (ns : List WithId) → ids_under ns ≡ taken → are_distinct taken ≡ true → AreUnused st taken supply n
    → AreFresh (st.statements ++ new_ones st.statements (kept_by moment o ns)) supply n
fresh_behind st taken supply n moment o ns are apart unused = record {
  unheld = λ k less. sym (ap (λ l. is_held (supply k) l) (all_news_added st.statements moment o ns (ap are_distinct are ∙ apart)))
      ∙ unheld_each (supply k) st.statements (new_ones st.statements (kept_by moment o ns))
      (news_elsewhere st.statements moment o ns (supply k) (ap (λ ids. is_one_of ids (supply k)) are ∙ unused.elsewhere k less)) (unused.unheld k less);
  apart = unused.apart;
}
