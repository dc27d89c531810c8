-- A body that is an object of just these strings.
use Rattle.std.proofs.Common.{◌≡◌, ℕ, false, List, Option, Some, None, refl, ap, ◌∙◌}
use Rattle.std.specs.Prelude.{is_some, option_and_then}
use Rattle.std.specs.Option.{option_map_or}
use Rattle.lrs_json.specs.Find.{find}
use Rattle.lrs_json.specs.Json.{Json, null, boolean, number, string, array, object}
use Rattle.lrs_json.specs.Parts.{text_in}
use Rattle.lrs_names.specs.Members.{has_member_that, is_string, text_under}

like : (o : Option Json) → option_map_or is_string o false ≡ is_some (option_and_then text_in o)
like None = refl
like (Some null) = refl
like (Some (boolean b)) = refl
like (Some (number s)) = refl
like (Some (string s)) = refl
like (Some (array js)) = refl
like (Some (object ms)) = refl

-- where the member has no text, it is no string
pub text_missing : (name : List ℕ) (j : Json) → text_under name j ≡ None → has_member_that name is_string j ≡ false
text_missing name j none = like (find name j) ∙ ap (λ (o : Option (List ℕ)). is_some o) none
