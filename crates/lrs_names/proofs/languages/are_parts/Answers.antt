-- The parts are those of `slice_split`.
use Rattle.std.proofs.Common.{rules, tests}
use Rattle.std.proofs.lemmas.Iterator.Search.{all_from_yields_List}
use Rattle.std.proofs.lemmas.Iterator.Splits.{YieldsList-from_slice_split}
use Rattle.std.specs.Char.{is_ascii_alphanumeric}
use Rattle.lrs_names.specs.Languages.{is_subtag}
use Rattle.lrs_names.proofs.languages.are_parts.Goals as goal

pub returns : goal.returns
returns c =
    all_from_yields_List (is_subtag is_ascii_alphanumeric) _ _ _ c.all.ensures.ran
    (YieldsList-from_slice_split _ _ c.args.text.now c.split.ensures.rest c.split.ensures.done c.split.ensures.closure (λ x r q k. search (rules, tests)))
    (λ x b q k. search (rules, tests))
