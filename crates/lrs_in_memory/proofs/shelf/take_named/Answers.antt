use Rattle.std.proofs.Common.{◌≡◌, ◌-◌, ◌∙◌, ap, sym, subst, arith, Some, IsSome, find, option_map, length, take}
use Rattle.std.specs.List.{position_or_len, slice_get}
use Rattle.std.specs.Option.{option_or}
use Rattle.lrs_in_memory.specs.Named.{is_named}
use Rattle.lrs_in_memory.proofs.Shelves.{found, missing, not_none, popped, remove_missing}
use Rattle.lrs_in_memory.proofs.shelf.take_named.Goals as goal

pub returns-then-index-len-clause-named : goal.returns-then-index-len-clause-named
returns-then-index-len-clause-named c =
    let there : find (is_named c.args.name.now) c.args.disks.now.items ≡ Some c.remove-disk.result = found (is_named c.args.name.now) c.args.disks.now.items c.index_of-index.result c.remove-disk.result (c.index_of-index.ensures ∙ ap (position_or_len (is_named c.args.name.now)) c.deref.ensures.value) (omega arith) c.remove-disk.ensures.value in
    ap (λ o. option_or (option_map (λ entry. entry.1) o) (slice_get c.args.spare.now.items (length c.args.spare.now.items - 1))) (sym there)

pub returns-then-index-len-clause-spare_used : goal.returns-then-index-len-clause-spare_used
returns-then-index-len-clause-spare_used c none =
    let there : find (is_named c.args.name.now) c.args.disks.now.items ≡ Some c.remove-disk.result = found (is_named c.args.name.now) c.args.disks.now.items c.index_of-index.result c.remove-disk.result (c.index_of-index.ensures ∙ ap (position_or_len (is_named c.args.name.now)) c.deref.ensures.value) (omega arith) c.remove-disk.ensures.value in
    not_none (find (is_named c.args.name.now) c.args.disks.now.items) c.remove-disk.result there none

pub returns-clause-named : goal.returns-clause-named
returns-clause-named c =
    popped c.args.spare.now.items _ c.pop.result (omega arith) c.pop.ensures.value c.pop.ensures.variant
    ∙ ap (λ o. option_or (option_map (λ entry. entry.1) o) (slice_get c.args.spare.now.items (length c.args.spare.now.items - 1))) (sym (missing (is_named c.args.name.now) c.args.disks.now.items c.index_of-index.result (c.index_of-index.ensures ∙ ap (position_or_len (is_named c.args.name.now)) c.deref.ensures.value) (omega arith)))

pub returns-clause-spare : goal.returns-clause-spare
returns-clause-spare c some = absurd (cc (subst IsSome (missing (is_named c.args.name.now) c.args.disks.now.items c.index_of-index.result (c.index_of-index.ensures ∙ ap (position_or_len (is_named c.args.name.now)) c.deref.ensures.value) (omega arith)) some))

pub returns-clause-spare_used : goal.returns-clause-spare_used
returns-clause-spare_used c none = c.pop.ensures.rest ∙ ap (λ n. take (n - 1) c.args.spare.now.items) (omega arith)

pub returns-clause-disks : goal.returns-clause-disks
returns-clause-disks c = sym (remove_missing (is_named c.args.name.now) c.args.disks.now.items (missing (is_named c.args.name.now) c.args.disks.now.items c.index_of-index.result (c.index_of-index.ensures ∙ ap (position_or_len (is_named c.args.name.now)) c.deref.ensures.value) (omega arith)))
