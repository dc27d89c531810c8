use Rattle.std.proofs.Common.{sym, ap, ◌∙◌}
use Rattle.xapi_format.specs.LrsNamesMembers.{is_one_of}
use Rattle.xapi_format.specs.Completed.{added_names}
use Rattle.xapi_received.proofs.marking.mark_next.Goals as goal

pub leave_out-requires : goal.leave_out-requires
leave_out-requires c = ap (is_one_of added_names) (sym c.as_str.ensures.lent) ∙ sym c.is_added.ensures ∙ c.if-is_added.true

pub keep-requires : goal.keep-requires
keep-requires c = ap (is_one_of added_names) (sym c.as_str.ensures.lent) ∙ sym c.is_added.ensures ∙ c.if-is_added.false
