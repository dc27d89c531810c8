-- The function and the relation agree.
use Rattle.std.proofs.Common.{◌≡◌, ◌≤◌, ◌&&◌, ℕ, List, [], ◌∷◌, length, Bool, true, false, Option, Some, None, nat_eq, nat_le, refl, sym, ap, subst, arith}
use Rattle.std.proofs.lemmas.Bool.{eqb-true, leb-true, le-leb}
use Rattle.std.proofs.lemmas.Option.{none-some, same_Some, option_and_then_some}
use Rattle.lrs_json.specs.Depth.{depth}
use Rattle.lrs_json.specs.Json.{Json}
use Rattle.lrs_json_reader.proofs.Ends.{last_Ends}
use Rattle.lrs_json_reader.proofs.Spaces.{Spaces-behind, behind-Spaces}
use Rattle.lrs_json_reader.proofs.StepLemmas.{Spaces-length}
use Rattle.lrs_json_reader.proofs.Values.{Value-Stops}
use Rattle.lrs_json_reader.specs.Flaws.{out_of_range_numbers, repeated_names}
use Rattle.lrs_json_reader.specs.Grammar.{IsText, Spaces, Value}
use Rattle.lrs_json_reader.specs.Located.{Located, plain}
use Rattle.lrs_json_reader.specs.Refusals.{Spells}
use Rattle.lrs_json_spelled.proofs.Again.{readers_complete}
use Rattle.lrs_json_spelled.proofs.Found.{readers_sound}
use Rattle.lrs_json_spelled.proofs.Fronts.{if_found}
use Rattle.lrs_json_spelled.specs.Laws.{FindsWhatIsSpelled}
use Rattle.lrs_json_spelled.specs.Spelled.{alone, if_sound, is_sound, located_in, readers, steps_of, value_in, without_spaces}

empty : (xs : List ℕ) → nat_eq (length xs) 0 ≡ true → xs ≡ []
empty [] e = refl
empty (x ∷ xs) e = absurd (let l = eqb-true (length (x ∷ xs)) 0 e in omega arith)

located_found : (bytes : List ℕ) (p : Located) → located_in bytes ≡ Some p → IsText p bytes
unfolding located_in
located_found bytes p e =
    let start = without_spaces bytes in
    option_and_then_some alone ((readers (steps_of bytes)).value start) p e (λ found is last.
    if_found (nat_eq (length (without_spaces found.1)) 0) (Some found.0) None (Some p) last
    (λ t h.
    let v = (readers_sound (steps_of bytes)).value found.0 start found.1 is in (
      start,
      found.1,
      Spaces-behind bytes,
      subst (λ z. Value z start found.1) (same_Some found.0 p h) v,
      subst (λ z. Spaces found.1 z) (empty (without_spaces found.1) t) (Spaces-behind found.1),
    ))
    (λ t h. absurd (none-some p h)))

-- what bytes are the text of is found
pub located_again : (bytes : List ℕ) (p : Located) → IsText p bytes → located_in bytes ≡ Some p
unfolding located_in
located_again bytes p t =
    let spaces = Spaces-length bytes t.0 t.2 in
    let read = (readers_complete (steps_of bytes)).value p t.0 t.1 (omega arith) t.3 (last_Ends t.1 t.4) in
    rw (behind-Spaces bytes t.0 t.2 (Value-Stops p t.0 t.1 t.3), read, behind-Spaces t.1 [] t.4 tt) refl

each_true : (a b c : Bool) → (a && b && c) ≡ true → (a ≡ true) × (b ≡ true) × (c ≡ true)
each_true true true true e = (refl, refl, refl)
each_true true true false e = cc e
each_true true false c e = cc e
each_true false b c e = cc e

sound_found : (limit : ℕ) (bytes : List ℕ) (j : Json) (p : Located) → IsText p bytes → is_sound limit p ≡ true → plain p ≡ j → Spells limit bytes j
sound_found limit bytes j p text sound is =
    let parts = each_true (nat_le (depth (plain p)) limit) (nat_eq (length (repeated_names p)) 0) (nat_eq (length (out_of_range_numbers p)) 0) sound in
    record {
      located = p;
      is = is;
      spelled = text;
      shallow = subst (λ z. depth z ≤ limit) is (leb-true (depth (plain p)) limit parts.0);
      distinct = empty (repeated_names p) parts.1;
      in_range = empty (out_of_range_numbers p) parts.2;
    }

value_found : (limit : ℕ) (bytes : List ℕ) (j : Json) → value_in limit bytes ≡ Some j → Spells limit bytes j
unfolding value_in
value_found limit bytes j e =
    option_and_then_some (if_sound limit) (located_in bytes) j e (λ p is h.
    if_found (is_sound limit p) (Some (plain p)) None (Some j) h
    (λ t same. sound_found limit bytes j p (located_found bytes p is) t (same_Some (plain p) j same))
    (λ t none. absurd (none-some j none)))

value_again : (limit : ℕ) (bytes : List ℕ) (j : Json) → Spells limit bytes j → value_in limit bytes ≡ Some j
unfolding value_in
value_again limit bytes j s =
    let shallow : nat_le (depth (plain s.located)) limit ≡ true = le-leb (depth (plain s.located)) limit (subst (λ z. depth z ≤ limit) (sym s.is) s.shallow) in
    rw (located_again bytes s.located s.spelled, shallow, s.distinct, s.in_range) (ap Some s.is)

pub finds_what_is_spelled : FindsWhatIsSpelled
finds_what_is_spelled = λ limit bytes j. (value_found limit bytes j, value_again limit bytes j)

none_at : (o : Option Json) → ((j : Json) → o ≡ Some j → ⊥) → None ≡ o
none_at None none = refl
none_at (Some j) none = absurd (none j refl)

-- where nothing is spelled, none is found
pub none_is_spelled : (limit : ℕ) (bytes : List ℕ) → ((j : Json) → Spells limit bytes j → ⊥) → None ≡ value_in limit bytes
none_is_spelled limit bytes none = none_at (value_in limit bytes) (λ j e. none j (value_found limit bytes j e))

pub some_is_spelled : (limit : ℕ) (bytes : List ℕ) (j : Json) → Spells limit bytes j → Some j ≡ value_in limit bytes
some_is_spelled limit bytes j s = sym (value_again limit bytes j s)
