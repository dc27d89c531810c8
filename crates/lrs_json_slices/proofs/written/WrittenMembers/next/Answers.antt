use Rattle.std.proofs.Common.{sym, ◌∙◌}
use Rattle.lrs_json_slices.proofs.Firsts.{members_end}
use Rattle.lrs_json_slices.proofs.Nexts.{fewer_members, member_seen, next_member}
use Rattle.lrs_json_slices.proofs.written.WrittenMembers.next.Goals as goal

pub returns-then-begins_with-clause-next : goal.returns-then-begins_with-clause-next
returns-then-begins_with-clause-next c =
    let first = c.if-begins_with.ensures in
    let none = sym c.self.view_is ∙ members_end c.self.inside.bytes.now first.0 c.self.inside.spelled first.1 in
    (none, none)

pub invariant_of-self-inside : goal.invariant_of-self-inside
invariant_of-self-inside c =
    let parts = c.split_member.result in
    ((next_member c.self.inside.bytes.now parts.0.now parts.1.now parts.2.now c.self.inside.spelled c.if-begins_with.ensures c.split_member.ensures).2, tt)

pub invariant_of-result : goal.invariant_of-result
invariant_of-result c =
    let parts = c.split_member.result in
    ((next_member c.self.inside.bytes.now parts.0.now parts.1.now parts.2.now c.self.inside.spelled c.if-begins_with.ensures c.split_member.ensures).0, tt)

pub invariant_of-result-2 : goal.invariant_of-result-2
invariant_of-result-2 c =
    let parts = c.split_member.result in
    ((next_member c.self.inside.bytes.now parts.0.now parts.1.now parts.2.now c.self.inside.spelled c.if-begins_with.ensures c.split_member.ensures).1, tt)

pub returns-clause-next : goal.returns-clause-next
returns-clause-next c =
    let parts = c.split_member.result in
    sym c.self.view_is
    ∙ member_seen c.self.inside.bytes.now parts.0.now parts.1.now parts.2.now c.self.inside.spelled c.if-begins_with.ensures c.split_member.ensures c.result-1.given.0 c.result-2-1.given.0 c.left-2-1.given.0

pub returns-clause-fewer : goal.returns-clause-fewer
returns-clause-fewer c =
    let inside = c.self.inside in
    let parts = c.split_member.result in
    let next = next_member inside.bytes.now parts.0.now parts.1.now parts.2.now inside.spelled c.if-begins_with.ensures c.split_member.ensures in
    fewer_members c.args.self.now _ _ _
    (sym c.self.view_is ∙ member_seen inside.bytes.now parts.0.now parts.1.now parts.2.now inside.spelled c.if-begins_with.ensures c.split_member.ensures next.0 next.1 c.left-2-1.given.0)
