-- What is put behind the address of the store leaves it an IRI.
use Rattle.std.proofs.Common.{◌≡◌, ℕ, List, ◌++◌, codes, ap, sym, ◌∙◌, arith}
use Rattle.std.specs.Fmt.{decimal}
use Rattle.lrs_names.specs.Iris.{is_iri}
use Rattle.cmi5_launch.specs.Activities.{activity_text}
use Rattle.cmi5_launch.proofs.LongerIris.{activity_is_iri, pieces}
use Rattle.cmi5_launch.proofs.activities.activity_id.Goals as goal

whole : (text lent made own base : List ℕ) (course node : ℕ) → text ≡ lent → lent ≡ made → made ≡ own ++ (codes "activities/" ++ (decimal course ++ (codes "/" ++ decimal node))) → own ≡ base → text ≡ activity_text base course node
whole text lent made own base course node copied is formatted given =
    copied ∙ is ∙ formatted ∙ ap (λ b. b ++ (codes "activities/" ++ (decimal course ++ (codes "/" ++ decimal node)))) given
    ∙ sym (pieces base (codes "activities/") (decimal course) (codes "/") (decimal node))

pub returns : goal.returns
returns c =
    c.in-Ok.ensures.iri.0 ∙ whole c.in_ok-of.field-0 c.as_str.result.now _ c.as_str-base.result.now c.args.base.now c.args.course c.args.node c.in_ok-of.ensures.copied c.as_str.ensures.value c.in_ok-text.ensures.ok c.as_str-base.ensures.lent

pub unreachable-requires : goal.unreachable-requires
unreachable-requires c =
    let text = whole c.in_ok-of.field-0 c.as_str.result.now _ c.as_str-base.result.now c.args.base.now c.args.course c.args.node c.in_ok-of.ensures.copied c.as_str.ensures.value c.in_ok-text.ensures.ok c.as_str-base.ensures.lent in
    c.in-Err.ensures.other.1 (ap is_iri text ∙ activity_is_iri c.args.base.now c.args.course c.args.node c.as_str-base.ensures.utf8 (omega arith) (omega arith) c.requires)
