use Rattle.std.proofs.Common.{◌≡◌, ◌++◌, drop}
use Rattle.lrs_replies.specs.Texts.{ids_body, ids_text}
use Rattle.lrs_replies.proofs.showing.put_ids.Given as goal

abbrev pub invariant-loop-id : goal.invariant-loop-id
invariant-loop-id l = l.body.items ++ ids_text l.later (drop l.id-index l.ids) ≡ l.fn.body.items ++ ids_body l.ids
