-- What is read stands there.
use Rattle.std.proofs.Common.{◌≡◌, ◌==◌, ℕ, zero, suc, List, [], ◌∷◌, length, Bool, true, false, Option, Some, None, codes, refl, ap, subst}
use Rattle.std.proofs.lemmas.Bool.{eqb-true}
use Rattle.std.proofs.lemmas.Option.{none-some, option_and_then_some, some_pair_parts}
use Rattle.lrs_json_reader.proofs.Spaces.{Spaces-behind}
use Rattle.lrs_json_reader.specs.Grammar.{Listed, Paired, Quoted, Spaces, Value}
use Rattle.lrs_json_reader.specs.Located.{Located, null, boolean, string, array, object, Elements, no_elements, element, Members, no_members, member}
use Rattle.lrs_json_spelled.proofs.Fronts.{comma_found, if_found, map_found, number_found_at, past_found, quoted_found, word_found}
use Rattle.lrs_json_spelled.specs.Spelled.{Readers, comma_at, element_by, member_by, or_end, past, quoted_at, readers, value_by, without_spaces}

-- the readers read only what stands there
pub record AreSound (r : Readers) : Type 0 where
  pub value : (p : Located) (bytes rest : List ℕ) → r.value bytes ≡ Some (p, rest) → Value p bytes rest
  pub elements : (later : Bool) (ps : Elements) (bytes rest : List ℕ) → r.elements later bytes ≡ Some (ps, rest) → Listed later ps bytes rest
  pub members : (later : Bool) (ms : Members) (bytes rest : List ℕ) → r.members later bytes ≡ Some (ms, rest) → Paired later ms bytes rest

value_found : (r : Readers) → AreSound r → (p : Located) (bytes rest : List ℕ) → value_by r bytes ≡ Some (p, rest) → Value p bytes rest
unfolding value_by
value_found r sound p [] rest e = absurd (none-some _ e)
value_found r sound p (b ∷ bs) rest e =
    let bytes = b ∷ bs in
    if_found (b == 110) _ _ (Some (p, rest)) e (λ t h. let w = word_found (codes "null") null p bytes rest h in subst (λ z. Value z bytes rest) w.0 w.1) (λ _ e.
    if_found (b == 116) _ _ (Some (p, rest)) e (λ t h. let w = word_found (codes "true") (boolean true) p bytes rest h in subst (λ z. Value z bytes rest) w.0 w.1) (λ _ e.
    if_found (b == 102) _ _ (Some (p, rest)) e (λ t h. let w = word_found (codes "false") (boolean false) p bytes rest h in subst (λ z. Value z bytes rest) w.0 w.1) (λ _ e.
    if_found (b == 34) _ _ (Some (p, rest)) e
    (λ t h. map_found _ (quoted_at bytes) (p, rest) h (λ x is same.
    let parts = some_pair_parts (string x.0) p x.1 rest (ap Some same) in
    subst (λ z. Value z bytes rest) parts.0 (subst (λ z. Quoted x.0 bytes z) parts.1 (quoted_found x.0 bytes x.1 is)))) (λ _ e.
    if_found (b == 91) _ _ (Some (p, rest)) e
    (λ t h. map_found _ (r.elements false bs) (p, rest) h (λ x is same.
    let parts = some_pair_parts (array x.0) p x.1 rest (ap Some same) in
    let opening : b ∷ bs ≡ 91 ∷ bs = ap (λ z. z ∷ bs) (eqb-true b 91 t) in
    subst (λ z. Value z bytes rest) parts.0 (bs, opening, subst (λ z. Listed false x.0 bs z) parts.1 (sound.elements false x.0 bs x.1 is)))) (λ _ e.
    if_found (b == 123) _ _ (Some (p, rest)) e
    (λ t h. map_found _ (r.members false bs) (p, rest) h (λ x is same.
    let parts = some_pair_parts (object x.0) p x.1 rest (ap Some same) in
    let opening : b ∷ bs ≡ 123 ∷ bs = ap (λ z. z ∷ bs) (eqb-true b 123 t) in
    subst (λ z. Value z bytes rest) parts.0 (bs, opening, subst (λ z. Paired false x.0 bs z) parts.1 (sound.members false x.0 bs x.1 is)))) (λ _ e.
    number_found_at p bytes rest e))))))

-- the end, or something more
end_found : {A R : Type 0} (none : A) (o : Option (List ℕ)) (more : Option (A × List ℕ)) (x : A) (rest : List ℕ) → or_end none o more ≡ Some (x, rest) → (o ≡ Some rest → none ≡ x → R) → (more ≡ Some (x, rest) → R) → R
end_found none (Some end) more x rest e k l = let parts = some_pair_parts none x end rest e in k (ap Some parts.1) parts.0
end_found none None more x rest e k l = l e

closed : (k : ℕ) (bytes rest : List ℕ) → past k (without_spaces bytes) ≡ Some rest → Spaces bytes (k ∷ rest)
closed k bytes rest e = subst (λ z. Spaces bytes z) (past_found k (without_spaces bytes) rest e) (Spaces-behind bytes)

element_found : (r : Readers) → AreSound r → (later : Bool) (ps : Elements) (bytes rest : List ℕ) → element_by r later bytes ≡ Some (ps, rest) → Listed later ps bytes rest
unfolding element_by
element_found r sound later ps bytes rest e =
    option_and_then_some _ (comma_at later bytes) (ps, rest) e (λ begin ib eb.
    option_and_then_some _ (r.value (without_spaces begin)) (ps, rest) eb (λ value iv ev.
    option_and_then_some _ (r.elements true value.1) (ps, rest) ev (λ more im same.
    let parts = some_pair_parts (element value.0 more.0) ps more.1 rest same in
    let here = sound.value value.0 (without_spaces begin) value.1 iv in
    let tail = subst (λ z. Listed true more.0 value.1 z) parts.1 (sound.elements true more.0 value.1 more.1 im) in
    subst (λ z. Listed later z bytes rest) parts.0 (begin, without_spaces begin, value.1, comma_found later bytes begin ib, Spaces-behind begin, here, tail))))

elements_found : (r : Readers) → AreSound r → (later : Bool) (ps : Elements) (bytes rest : List ℕ) → or_end no_elements (past 93 (without_spaces bytes)) (element_by r later bytes) ≡ Some (ps, rest) → Listed later ps bytes rest
elements_found r sound later ps bytes rest e =
    end_found no_elements (past 93 (without_spaces bytes)) (element_by r later bytes) ps rest e
    (λ is none. subst (λ z. Listed later z bytes rest) none (closed 93 bytes rest is))
    (λ more. element_found r sound later ps bytes rest more)

member_found : (r : Readers) → AreSound r → (later : Bool) (ms : Members) (bytes rest : List ℕ) → member_by r later bytes ≡ Some (ms, rest) → Paired later ms bytes rest
unfolding member_by
member_found r sound later ms bytes rest e =
    option_and_then_some _ (comma_at later bytes) (ms, rest) e (λ begin ib eb.
    option_and_then_some _ (quoted_at (without_spaces begin)) (ms, rest) eb (λ name iname en.
    option_and_then_some _ (past 58 (without_spaces name.1)) (ms, rest) en (λ colon ic ec.
    option_and_then_some _ (r.value (without_spaces colon)) (ms, rest) ec (λ value iv ev.
    option_and_then_some _ (r.members true value.1) (ms, rest) ev (λ more im same.
    let at = without_spaces begin in
    let parts = some_pair_parts (member (length at) name.0 value.0 more.0) ms more.1 rest same in
    let named = quoted_found name.0 at name.1 iname in
    let here = sound.value value.0 (without_spaces colon) value.1 iv in
    let tail = subst (λ z. Paired true more.0 value.1 z) parts.1 (sound.members true more.0 value.1 more.1 im) in
    subst (λ z. Paired later z bytes rest) parts.0
    (begin, at, name.1, colon, without_spaces colon, value.1, comma_found later bytes begin ib, Spaces-behind begin, named, closed 58 name.1 colon ic, Spaces-behind colon, here, tail, refl))))))

members_found : (r : Readers) → AreSound r → (later : Bool) (ms : Members) (bytes rest : List ℕ) → or_end no_members (past 125 (without_spaces bytes)) (member_by r later bytes) ≡ Some (ms, rest) → Paired later ms bytes rest
members_found r sound later ms bytes rest e =
    end_found no_members (past 125 (without_spaces bytes)) (member_by r later bytes) ms rest e
    (λ is none. subst (λ z. Paired later z bytes rest) none (closed 125 bytes rest is))
    (λ more. member_found r sound later ms bytes rest more)

pub readers_sound : (n : ℕ) → AreSound (readers n)
unfolding readers
readers_sound zero =
    record { value = λ p bytes rest e. absurd (none-some _ e); elements = λ later ps bytes rest e. absurd (none-some _ e); members = λ later ms bytes rest e. absurd (none-some _ e) }
readers_sound (suc n) =
    let inner = readers_sound n in
    record { value = value_found (readers n) inner; elements = elements_found (readers n) inner; members = members_found (readers n) inner }
