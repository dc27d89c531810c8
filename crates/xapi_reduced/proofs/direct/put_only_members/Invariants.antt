use Rattle.std.proofs.Common.{◌≡◌, ◌++◌, false}
use Rattle.lrs_json.specs.Parts.{count_members}
use Rattle.lrs_json.specs.Written.{Extends, members_text}
use Rattle.xapi_values.specs.Memberwise.{each_member}
use Rattle.xapi_reduced.specs.Direct.{kept_names}
use Rattle.xapi_reduced.specs.Reduced.{only}
use Rattle.xapi_reduced.proofs.direct.put_only_members.Given as goal

-- with what is left, the text is whole
abbrev pub invariant-loop-part : goal.invariant-loop-part
invariant-loop-part g l = record {
  kept : Extends l.fn.into.items l.into.items;
  whole : l.into.items ++ members_text l.later (each_member g.P.Part.change (only (kept_names l.names) l.left))
      ≡ l.fn.into.items ++ members_text false (each_member g.P.Part.change (only (kept_names l.names) l.fn.members));
}

abbrev pub decreases-loop-part : goal.decreases-loop-part
decreases-loop-part g l = count_members l.left
