use Rattle.std.proofs.Common.{map, sym}
use Rattle.std.proofs.lemmas.Result.{on_ok_weaker}
use Rattle.lrs_json.specs.View.{view, member_view, members_of}
use Rattle.xapi_format.specs.XapiValuesMemberwise.{with_each_member}
use Rattle.xapi_received.proofs.Memberwise.{not_changed, marks_as, marks_object}
use Rattle.xapi_received.proofs.plural.mark_each.Goals as goal

pub returns-in-Some : goal.returns-in-Some
returns-in-Some g c =
    on_ok_weaker c.mark_members.result (λ n. marks_object g.P.Plural.change (view c.args.tree.now) (members_of (map member_view c.in-Some.members.now)) c.args.draft.now c.mark_members.new.draft c.in-Some.ensures n)
    c.mark_members.ensures

pub returns-in-None : goal.returns-in-None
returns-in-None g c =
    let json = view c.args.tree.now in
    on_ok_weaker c.put_tree.result (λ n. marks_as json json (with_each_member g.P.Plural.change json) c.args.draft.now c.put_tree.new.self (sym (not_changed g.P.Plural.change json c.in-None.ensures)) n)
    c.put_tree.ensures
