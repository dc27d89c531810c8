use Rattle.lrs_json.specs.View.{view}
use Rattle.xapi_received.proofs.Keeping.{so_far_kept}
use Rattle.xapi_received.proofs.marking.keep.Goals as goal

pub returns : goal.returns
returns c = λ all ms start so.
    so_far_kept all ms start c.args.draft.now c.mark_kept.new.draft c.args.stands c.args.ending c.args.part.now.name (view c.args.part.now.value) c.requires c.in_ok-mark_kept.ensures so
