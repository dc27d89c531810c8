-- The hyphenated form has 36 bytes.
use Rattle.std.proofs.Common.{◌≡◌, ℕ, List, length, sym, ap, ◌∙◌}
use Rattle.uuid.specs.Text.{hyphenated_text, lower}
use Rattle.uuid.proofs.TextLemmas.{by_index_length}
use Rattle.lrs_names.proofs.id.Id.text.Goals as goal

pub copy_from_slice-requires : goal.copy_from_slice-requires
copy_from_slice-requires c =
    let long : length (hyphenated_text lower c.hyphenated.result) ≡ 36 = by_index_length 36 _ in
    sym (ap (λ (xs : List ℕ). length xs) (c.as_bytes.ensures.value ∙ c.encode_lower-text.ensures.text) ∙ long)

pub returns-clause-whole : goal.returns-clause-whole
returns-clause-whole c = rw (← c.self.view_is) c.are_whole.ensures
