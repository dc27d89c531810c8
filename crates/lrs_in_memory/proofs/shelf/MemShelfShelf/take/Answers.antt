use Rattle.std.proofs.Common.{◌≡◌, ◌∙◌, [], All, find, sym, subst}
use Rattle.lrs_in_memory.specs.MemDisk.{bytes_of}
use Rattle.lrs_in_memory.specs.Named.{is_named, IsSettled}
use Rattle.lrs_in_memory.proofs.Shelves.{All-remove, none_taken, remove_missing, same_disk, same_named, spare_all, told_same}
use Rattle.lrs_in_memory.proofs.shelf.MemShelfShelf.take.Goals as goal

pub invariant_of-self-in-Some-1 : goal.invariant_of-self-in-Some-1
invariant_of-self-in-Some-1 c = record {
  settled = subst (All (λ entry. IsSettled entry.1)) (sym c.take_named.ensures.disks) (All-remove (λ entry. IsSettled entry.1) c.args.self.now.disks.items _ c.args.self.now.settled);
  spare_settled = spare_all (find (is_named c.args.name.now) c.args.self.now.disks.items) c.args.self.now.spare.items c.take_named.new.spare.items c.take_named.ensures.spare c.take_named.ensures.spare_used IsSettled c.args.self.now.spare_settled;
  spare_empty = spare_all (find (is_named c.args.name.now) c.args.self.now.disks.items) c.args.self.now.spare.items c.take_named.new.spare.items c.take_named.ensures.spare c.take_named.ensures.spare_used (λ disk. bytes_of disk ≡ []) c.args.self.now.spare_empty;
}

pub invariant_of-self-in-None : goal.invariant_of-self-in-None
invariant_of-self-in-None c = record {
  settled = subst (All (λ entry. IsSettled entry.1)) (sym c.take_named.ensures.disks) (All-remove (λ entry. IsSettled entry.1) c.args.self.now.disks.items _ c.args.self.now.settled);
  spare_settled = spare_all (find (is_named c.args.name.now) c.args.self.now.disks.items) c.args.self.now.spare.items c.take_named.new.spare.items c.take_named.ensures.spare c.take_named.ensures.spare_used IsSettled c.args.self.now.spare_settled;
  spare_empty = spare_all (find (is_named c.args.name.now) c.args.self.now.disks.items) c.args.self.now.spare.items c.take_named.new.spare.items c.take_named.ensures.spare c.take_named.ensures.spare_used (λ disk. bytes_of disk ≡ []) c.args.self.now.spare_empty;
}

pub returns-in-None-clause-same : goal.returns-in-None-clause-same
returns-in-None-clause-same c =
    let none = none_taken (λ entry. entry.1) (find (is_named c.args.name.now) c.args.self.now.disks.items) c.args.self.now.spare.items c.take_named.new.spare.items c.in-None.ensures.named c.take_named.ensures.spare c.take_named.ensures.spare_used in
    (c.take_named.ensures.disks ∙ remove_missing (is_named c.args.name.now) c.args.self.now.disks.items none.0, none.1)

pub returns-in-Some-clause-others : goal.returns-in-Some-clause-others
returns-in-Some-clause-others c other differ one =
    told_same _ _ (same_disk c.args.self.now.disks.items c.take_named.new.disks.items c.args.self.now.spare.items c.take_named.new.spare.items c.args.name.now other c.in-Some.disk differ one
    c.args.self.now.spare_empty (sym c.take_named.ensures.named ∙ c.in-Some.is) c.take_named.ensures.disks c.take_named.ensures.spare)

pub returns-in-None-clause-others : goal.returns-in-None-clause-others
returns-in-None-clause-others c other differ one =
    let none = none_taken (λ entry. entry.1) (find (is_named c.args.name.now) c.args.self.now.disks.items) c.args.self.now.spare.items c.take_named.new.spare.items c.in-None.ensures.named c.take_named.ensures.spare c.take_named.ensures.spare_used in
    told_same _ _ (same_named c.args.self.now.disks.items c.take_named.new.disks.items c.args.self.now.spare.items c.take_named.new.spare.items other
    (c.take_named.ensures.disks ∙ remove_missing (is_named c.args.name.now) c.args.self.now.disks.items none.0) none.1)
