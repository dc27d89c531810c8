use Rattle.std.proofs.Common.{map}
use Rattle.std.proofs.lemmas.Result.{MatchResult-weaker}
use Rattle.lrs_json.specs.View.{view, member_view, members_of}
use Rattle.xapi_received.proofs.Marked.{completes_object}
use Rattle.xapi_received.proofs.Memberwise.{is_object}
use Rattle.xapi_received.proofs.marking.mark_tree.Goals as goal

pub returns-in-Some : goal.returns-in-Some
returns-in-Some c =
    let json = view c.args.tree.now in
    let ms = members_of (map member_view c.in-Some.members.now) in
    MatchResult-weaker c.mark_members.result c.mark_members.ensures (λ ending whole. completes_object json ms ending c.args.draft.now c.mark_members.new.draft (is_object json ms c.in-Some.ensures) whole) (λ e any. any)

pub returns-in-None : goal.returns-in-None
returns-in-None c = MatchResult-weaker c.mark_other.result c.mark_other.ensures (λ ending whole. whole c.in-None.ensures) (λ e any. any)
