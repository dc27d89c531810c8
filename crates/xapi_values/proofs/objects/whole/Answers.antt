use Rattle.std.proofs.Common.{map, ap, sym, ◌∙◌}
use Rattle.lrs_json.specs.Json.{object}
use Rattle.lrs_json.specs.View.{member_view, members_of}
use Rattle.lrs_json.proofs.Views.{view-Object}
use Rattle.xapi_values.proofs.Following.{followed_none}
use Rattle.xapi_values.proofs.objects.whole.Goals as goal

pub returns : goal.returns
returns c = view-Object c.args.built ∙ ap object (sym (followed_none (members_of (map member_view c.args.built))))
