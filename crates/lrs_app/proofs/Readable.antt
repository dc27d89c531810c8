-- A generated statement is such as reading gives.
use Rattle.std.proofs.Common.{◌<◌, ◌≤◌, ◌-◌, ◌/◌, ◌%◌, ◌^◌, ℕ, suc, max, Bool, true, false, List, ◌++◌, IsUtf8, codes, arith, refl}
use Rattle.std.specs.Fmt.{decimal}
use Rattle.std.specs.Prelude.{if◌then◌else◌}
use Rattle.std.proofs.lemmas.Str.{IsUtf8-append, IsUtf8-from_ascii}
use Rattle.std.proofs.lemmas.Fmt.{IsAscii-decimal}
use Rattle.lrs_json.proofs.SmallBytes.{IsUtf8-small}
use Rattle.lrs_generator.specs.Generated.{actor_json, id_at, id_json, is_referring, is_voiding, number_at, object_json, reference_json, statement_json, verb_iri}
use Rattle.lrs_json.specs.Depth.{depth}
use Rattle.lrs_json.specs.Fits.{Fits, IsReadable}
use Rattle.lrs_json.specs.Json.{Json}
use Rattle.lrs_json.specs.declared.limits.TheConstants.{DEPTH}
use Rattle.lrs_names.proofs.IdTexts.{IsUtf8-id_text}

-- ---- texts

-- known words, and a number behind them
numbered : (words : List ℕ) (n : ℕ) → IsUtf8 words → n < 2 ^ 64 → IsUtf8 (words ++ decimal n)
numbered words n known small = IsUtf8-append words (decimal n) known (IsUtf8-from_ascii (decimal n) (IsAscii-decimal n small))

few_learners : (y : ℕ) → y % 20 < 2 ^ 64
few_learners y = omega arith

few_verbs : (y : ℕ) → y % 7 < 2 ^ 64
few_verbs y = omega arith

few_activities : (y : ℕ) → y % 50 < 2 ^ 64
few_activities y = omega arith

either_text : (b : Bool) (xs ys : List ℕ) → IsUtf8 xs → IsUtf8 ys → IsUtf8 (if b then xs else ys)
either_text true xs ys first second = first
either_text false xs ys first second = second

text_of_verb : (i x : ℕ) → IsUtf8 (verb_iri i x)
text_of_verb i x =
    either_text (is_voiding i) (codes "http://adlnet.gov/expapi/verbs/voided") (codes "http://v.invalid/" ++ decimal (x / 2 ^ 33 % 7)) (IsUtf8-small (codes "http://adlnet.gov/expapi/verbs/voided") refl)
    (numbered (codes "http://v.invalid/") (x / 2 ^ 33 % 7) (IsUtf8-small (codes "http://v.invalid/") refl) (few_verbs (x / 2 ^ 33)))

-- ---- values

either_fits : (b : Bool) (x y : Json) → Fits x → Fits y → Fits (if b then x else y)
either_fits true x y first second = first
either_fits false x y first second = second

id_fits : (iri : List ℕ) → IsUtf8 iri → Fits (id_json iri)
id_fits iri text = (IsUtf8-small (codes "id") refl, refl, text, tt)

reference_fits : (id : List ℕ) → Fits (reference_json id)
reference_fits id = (
  IsUtf8-small (codes "objectType") refl,
  refl,
  IsUtf8-small (codes "StatementRef") refl,
  (IsUtf8-small (codes "id") refl, refl, IsUtf8-id_text id, tt),
)

actor_fits : (x : ℕ) → Fits (actor_json x)
actor_fits x = (
  IsUtf8-small (codes "account") refl,
  refl,
  (
    IsUtf8-small (codes "homePage") refl,
    refl,
    IsUtf8-small (codes "https://l.invalid") refl,
    (IsUtf8-small (codes "name") refl, refl, numbered (codes "u") (x / 2 ^ 50 % 20) (IsUtf8-small (codes "u") refl) (few_learners (x / 2 ^ 50)), tt),
  ),
  tt,
)

object_fits : (seed i x : ℕ) → Fits (object_json seed i x)
object_fits seed i x =
    let about : Json = id_json (codes "http://a.invalid/" ++ decimal (x / 2 ^ 40 % 50)) in
    either_fits (is_voiding i) (reference_json (id_at seed (i - 2))) (if is_referring i then reference_json (id_at seed (i - 1)) else about) (reference_fits (id_at seed (i - 2)))
    (either_fits (is_referring i) (reference_json (id_at seed (i - 1))) about (reference_fits (id_at seed (i - 1)))
    (id_fits (codes "http://a.invalid/" ++ decimal (x / 2 ^ 40 % 50))
    (numbered (codes "http://a.invalid/") (x / 2 ^ 40 % 50) (IsUtf8-small (codes "http://a.invalid/") refl) (few_activities (x / 2 ^ 40)))))

statement_fits : (seed i : ℕ) → Fits (statement_json seed i)
statement_fits seed i = (
  IsUtf8-small (codes "id") refl,
  refl,
  IsUtf8-id_text (id_at seed i),
  (
    IsUtf8-small (codes "actor") refl,
    refl,
    actor_fits (number_at seed i),
    (
      IsUtf8-small (codes "verb") refl,
      refl,
      id_fits (verb_iri i (number_at seed i)) (text_of_verb i (number_at seed i)),
      (IsUtf8-small (codes "object") refl, refl, object_fits seed i (number_at seed i), tt),
    ),
  ),
)

-- ---- depth

either_flat : (b : Bool) (x y : Json) → depth x ≤ 1 → depth y ≤ 1 → depth (if b then x else y) ≤ 1
either_flat true x y first second = first
either_flat false x y first second = second

object_flat : (seed i x : ℕ) → depth (object_json seed i x) ≤ 1
object_flat seed i x =
    let about : Json = id_json (codes "http://a.invalid/" ++ decimal (x / 2 ^ 40 % 50)) in
    either_flat (is_voiding i) (reference_json (id_at seed (i - 2))) (if is_referring i then reference_json (id_at seed (i - 1)) else about) (omega arith)
    (either_flat (is_referring i) (reference_json (id_at seed (i - 1))) about (omega arith) (omega arith))

flat : (d : ℕ) → d ≤ 1 → suc (max 0 (max 2 (max 1 (max d 0)))) ≤ 64
flat d few = omega (arith, few)

pub readable : (seed i : ℕ) → IsReadable DEPTH (statement_json seed i)
readable seed i = (statement_fits seed i, flat (depth (object_json seed i (number_at seed i))) (object_flat seed i (number_at seed i)))
