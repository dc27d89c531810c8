use Rattle.std.proofs.Common.{◌≡◌, ◌++◌, false}
use Rattle.lrs_json.specs.Parts.{count_items}
use Rattle.lrs_json.specs.Written.{Extends, elements_text}
use Rattle.xapi_reduced.specs.Direct.{kept_names}
use Rattle.xapi_reduced.specs.Reduced.{each_item, with_only}
use Rattle.xapi_reduced.proofs.direct.put_items.Given as goal

-- with what is left, the text is whole
abbrev pub invariant-loop-item : goal.invariant-loop-item
invariant-loop-item l = record {
  kept : Extends l.fn.into.items l.into.items;
  whole : l.into.items ++ elements_text l.later (each_item (with_only (kept_names l.names)) l.left)
      ≡ l.fn.into.items ++ elements_text false (each_item (with_only (kept_names l.names)) l.fn.items);
}

abbrev pub decreases-loop-item : goal.decreases-loop-item
decreases-loop-item l = count_items l.left
