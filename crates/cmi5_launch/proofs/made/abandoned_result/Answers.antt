-- The text of a duration is ASCII.
use Rattle.std.proofs.Common.{◌∙◌, IsUtf8, subst, sym}
use Rattle.cmi5_launch.proofs.Durations.{duration_is_text}
use Rattle.cmi5_launch.proofs.made.abandoned_result.Goals as goal

pub utf8_text-requires : goal.utf8_text-requires
utf8_text-requires c = subst IsUtf8 (sym (c.as_slice.ensures.value ∙ c.in_ok-duration.ensures)) (duration_is_text c.args.ms)
