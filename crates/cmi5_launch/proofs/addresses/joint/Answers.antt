-- Where no question mark stands, none is found.
use Rattle.std.proofs.Common.{[], None, codes, sym, ap, lit<}
use Rattle.std.specs.Prelude.{if◌then◌else◌}
use Rattle.std.specs.List.{after_first}
use Rattle.std.proofs.lemmas.Str.Pattern.{split_parts}
use Rattle.lrs_names.specs.Iris.{has_some}
use Rattle.cmi5_launch.specs.Addresses.{is_question_mark}
use Rattle.cmi5_launch.proofs.FirstBytes.{none_stands}
use Rattle.cmi5_launch.proofs.addresses.joint.Goals as goal

pub returns-in-None : goal.returns-in-None
returns-in-None c =
    let address = c.args.address.now in
    let never = none_stands 63 address (split_parts 63 address None c.in-None.ensures.cases (lit< tt)) in
    sym (ap (λ b. if b then (if has_some (after_first is_question_mark address) then codes "&" else []) else codes "?") never)
