use Rattle.std.proofs.Common.{◌≡◌, drop, map}
use Rattle.lrs_json.specs.View.{member_view, members_of}
use Rattle.lrs_names.specs.Languages.{are_in_languages}
use Rattle.lrs_names.proofs.languages.are_in_languages.Given as goal

abbrev pub invariant-loop-member : goal.invariant-loop-member
invariant-loop-member l =
    are_in_languages (members_of (map member_view l.members)) ≡ are_in_languages (members_of (map member_view (drop l.member-index l.members)))
