use Rattle.std.proofs.Common.{◌≡◌, ◌++◌, false}
use Rattle.lrs_json.specs.Json.{Members}
use Rattle.lrs_json.specs.Parts.{count_members}
use Rattle.lrs_json.specs.Written.{Extends, members_text}
use Rattle.xapi_reduced.specs.Direct.{direct_before}
use Rattle.xapi_reduced.proofs.direct.put_kept.Given as goal

-- with what is left, the text is whole
abbrev pub invariant-loop-part : goal.invariant-loop-part
invariant-loop-part l = record {
  kept : Extends l.fn.into.items l.into.items;
  whole : (behind : Members) → l.into.items ++ members_text l.later (direct_before l.left behind)
      ≡ l.fn.into.items ++ members_text false (direct_before l.fn.members behind);
}

abbrev pub decreases-loop-part : goal.decreases-loop-part
decreases-loop-part l = count_members l.left
