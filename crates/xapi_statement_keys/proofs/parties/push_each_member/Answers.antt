-- One member more.
use Rattle.std.proofs.Common.{◌+◌, drop}
use Rattle.lrs_json.specs.View.{view}
use Rattle.xapi_query.specs.XapiFormatParty.{is_identified}
use Rattle.xapi_statement_keys.specs.Adding.{agent_keys}
use Rattle.xapi_statement_keys.proofs.Growing.{so_far_all, so_far_more, so_far_none}
use Rattle.xapi_statement_keys.proofs.Named.{member_keys, next_member, no_members}
use Rattle.xapi_statement_keys.proofs.parties.push_each_member.Goals as goal

pub loop-item-init : goal.loop-item-init
loop-item-init c = so_far_none c.args.keys.now.items (member_keys c.args.direct c.args.items.now)

pub loop-item-preserved : goal.loop-item-preserved
loop-item-preserved c =
    let at = c.loop-item in
    let direct = c.args.direct in
    let items = c.args.items.now in
    let item = c.item-item.result in
    so_far_more c.args.keys.now.items at.keys.items c.push_identified.new.keys.items (member_keys direct (drop at.item-index items)) (agent_keys direct (λ ifi. is_identified ifi (view item)))
    (member_keys direct (drop (at.item-index + 1) items)) (member_keys direct items) (next_member direct items at.item-index item c.loop-item-test.true c.item-item.is)
    c.in_ok-push_identified.ensures at.invariant

pub returns : goal.returns
returns c =
    let at = c.loop-item in
    let direct = c.args.direct in
    let items = c.args.items.now in
    so_far_all c.args.keys.now.items at.keys.items (member_keys direct (drop at.item-index items)) (member_keys direct items) (no_members direct items at.item-index c.loop-item-test.false) at.invariant
