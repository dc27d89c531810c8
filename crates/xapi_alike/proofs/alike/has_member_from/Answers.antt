use Rattle.std.proofs.Common.{rules}
use Rattle.xapi_alike.proofs.Walks.{has_behind, has_in_front}
use Rattle.xapi_alike.proofs.alike.has_member_from.Goals as goal

pub returns-then-has_member_named : goal.returns-then-has_member_named
returns-then-has_member_named c =
    has_behind c.args.name.now c.args.members.now _ _ c.has_member_named.result c.split_at.ensures.back c.has_member_named.ensures (search rules)

pub returns-else-has_member_named : goal.returns-else-has_member_named
returns-else-has_member_named c =
    has_in_front c.args.name.now c.args.members.now _ _ _ c.has_member_named.result c.has_member_named-else-has_member_named.result c.split_at.ensures.front c.split_at.ensures.back c.has_member_named.ensures (search rules)
    c.has_member_named-else-has_member_named.ensures
