-- A whole text.
use Rattle.std.proofs.Common.{◌≡◌, ℕ, List, [], Result, Ok, Err, IsErrAnd, sym, ap, ◌∙◌, subst}
use Rattle.lrs_decimal.specs.Numbers.{Ends}
use Rattle.lrs_decimal.proofs.Runs.{behind}
use Rattle.lrs_json_reader.specs.Located.{Located}
use Rattle.lrs_json_reader.specs.Flaws.{earliest, repeated_names, out_of_range_numbers}
use Rattle.lrs_json_reader.specs.Grammar.{is_space, Spaces, Value, IsText}
use Rattle.lrs_json_reader.specs.Reading.{noted, no_flaws, Misses, ReadsValue, ReadsText, IsRead}
use Rattle.lrs_json_reader.specs.declared.reader.Flaws.{Flaws}
use Rattle.lrs_json_reader.specs.declared.cursor.Stop.{Stop}
use Rattle.lrs_json_reader.specs.declared.cursor.Stop.TheVariants.{Memory}
use Rattle.lrs_json_reader.specs.declared.reader.Reader.{Reader}
use Rattle.lrs_json.specs.declared.tree.Tree.{Tree}
use Rattle.lrs_json_reader.proofs.Spaces.{Spaces-behind, behind-Spaces}
use Rattle.lrs_json_reader.proofs.Values.{Value-Stops}
use Rattle.lrs_json_reader.proofs.Ends.{last_Ends}
use Rattle.lrs_json_reader.proofs.Noting.{none-earlier, flaws_same}

-- whatever text the bytes are, its value stands after the white space
whole_at : (bytes s : List ℕ) (p : Located) → s ≡ behind is_space bytes → (t : IsText p bytes) → Value p s t.1 × Ends t.1
whole_at bytes s p e t =
    let here : s ≡ t.0 = e ∙ behind-Spaces bytes t.0 t.2 (Value-Stops p t.0 t.1 t.3) in
    (subst (λ z. Value p z t.1) (sym here) t.3, last_Ends t.1 t.4)

whole_found : (bytes s b last : List ℕ) (p : Located) → s ≡ behind is_space bytes → Value p s b → last ≡ behind is_space b → last ≡ [] → IsText p bytes
whole_found bytes s b last p e v el empty =
    (s, b, subst (λ z. Spaces bytes z) (sym e) (Spaces-behind bytes), v, subst (λ z. Spaces b z) (sym el ∙ empty) (Spaces-behind b))

whole_last : (b last rest : List ℕ) → last ≡ behind is_space b → b ≡ rest → Spaces rest [] → last ≡ []
whole_last b last rest el e s = el ∙ ap (behind is_space) e ∙ behind-Spaces rest [] s tt

pub text_done : (bytes last : List ℕ) (tree : Tree) (start new : Reader) → start.cursor ≡ behind is_space bytes → start.flaws ≡ no_flaws → ReadsValue start (Ok tree) new → last ≡ behind is_space new.cursor → last ≡ []
    → IsRead bytes tree new.flaws
text_done bytes last tree start new e none found el empty =
    record {
      located = found.it;
      spelled = whole_found bytes start.cursor new.cursor last found.it e found.here el empty;
      sees = found.sees;
      notes = found.notes ∙ ap (λ z. noted z found.it) none ∙ flaws_same _ _ _ _ (none-earlier (earliest (repeated_names found.it))) (none-earlier (earliest (out_of_range_numbers found.it)));
      only = λ p t. let w = whole_at bytes start.cursor p e t in (found.only p t.1 w.0 w.1).0;
    }

pub text_err : {Q : Stop → Type 0} (bytes : List ℕ) (r : Result (Tree × Flaws) Stop) → IsErrAnd r Q → ((y : Stop) → Q y → (p : Located) → IsText p bytes → y ≡ Memory) → ReadsText bytes r
text_err bytes (Ok t) q f = absurd q
text_err bytes (Err y) q f = f y q

pub text_missing : (bytes : List ℕ) (start : Reader) (y : Stop) → start.cursor ≡ behind is_space bytes → Misses Value start y → (p : Located) → IsText p bytes → y ≡ Memory
text_missing bytes start y e misses p t = let w = whole_at bytes start.cursor p e t in misses p t.1 w.0 w.1

pub text_longer : (bytes last : List ℕ) (tree : Tree) (start new : Reader) → start.cursor ≡ behind is_space bytes → ReadsValue start (Ok tree) new → last ≡ behind is_space new.cursor → (last ≡ [] → ⊥) → (p : Located) → IsText p bytes → ⊥
text_longer bytes last tree start new e found el more p t =
    let w = whole_at bytes start.cursor p e t in
    more (whole_last new.cursor last t.1 el (found.only p t.1 w.0 w.1).1 t.4)
