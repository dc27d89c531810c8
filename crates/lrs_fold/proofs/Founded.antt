-- What founds a store is judged: its address is one.
use Rattle.std.proofs.Common.{◌≡◌, ℕ, List, true, ◌&&◌}
use Rattle.std.specs.Prelude.{IsTrue, codes, nat_eq}
use Rattle.std.specs.List.{list_all, ends_with}
use Rattle.std.specs.Cmp.{first_so, second_so}
use Rattle.lrs_reads.specs.LrsRefusalsJudged.{IsJudged}
use Rattle.lrs_reads.specs.LrsHistoryHistory.{IsFounding, founds, is_operator, is_zero}
use Rattle.lrs_names.specs.Iris.{is_iri}
use Rattle.lrs_learning.specs.LrsStateFounding.{IsBase, has_base_form, is_base, is_no_separator, is_of_the_web, is_token}
use Rattle.lrs_record.specs.declared.entry.Entry.{Entry}
use Rattle.lrs_record.specs.declared.entry.Write.{Write}
use Rattle.lrs_record.specs.declared.entry.Write.TheVariants.{Found}

-- the address of a store is an IRI
pub base_is_iri : (base : List ℕ) → IsBase base → IsTrue (is_iri base)
base_is_iri base is =
    second_so (is_of_the_web base && ends_with nat_eq base (codes "/") && list_all is_no_separator base) (is_iri base)
    (first_so (has_base_form base) _ is)

founds_judged : (w : Write) → founds w ≡ true → IsJudged w
founds_judged (Found admin base) is = second_so (is_token admin) (is_base base) is
founds_judged other is = absurd (cc is)

pub founding_judged : (e : Entry) → IsFounding e → IsJudged e.write
founding_judged e is = founds_judged e.write (second_so (is_operator e.caller && is_zero e.draw) (founds e.write) is)
