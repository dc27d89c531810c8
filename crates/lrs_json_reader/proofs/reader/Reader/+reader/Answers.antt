use Rattle.std.proofs.Common.{◌≡◌, ◌-◌, ℕ, take, drop, length, vec_len, List, [], map, Option, Ok, false, refl, sym, ap, ◌∙◌, subst, arith, rules}
use Rattle.std.proofs.lemmas.List.{take_rest}
use Rattle.lrs_json.specs.View.{view, member_view}
use Rattle.lrs_json_reader.specs.Located.{plain}
use Rattle.lrs_json_reader.specs.Grammar.{Value}
use Rattle.lrs_json_reader.specs.Flaws.{earlier, earliest}
use Rattle.lrs_json_reader.specs.Steps.{StepsToNext}
use Rattle.lrs_json.specs.declared.tree.Member.{Member}
use Rattle.lrs_json_reader.specs.Reading.{has_items, repeated_among, noted, noted_entry, plain_entry, Pair}
use Rattle.lrs_json.specs.declared.tree.Tree.{the_lemmas}
use Rattle.lrs_json_reader.proofs.StepLemmas.{goes_later, goes_at}
use Rattle.lrs_json_reader.proofs.Readings.{reads_err}
use Rattle.lrs_json_reader.proofs.Lists.{list_start, list_next, list_goes_fault, list_item_fault, list_done}
use Rattle.lrs_json_reader.proofs.Objects.{object_begun, object_more, stack_parts, object_goes_fault, object_member_fault, object_done, colon_at, value_at, member_shorter, member_done}
use Rattle.lrs_json_reader.proofs.reader.Reader.+reader.Goals as goal

pub list-loop-items-init : goal.list-loop-items-init
list-loop-items-init t c = record { so_far = rw c.new-items.ensures (list_start _ _ c.requires.0 c.requires.1 c.advance.ensures refl); kept = refl }

pub list-returns-in_err-goes_on-clause-reads : goal.list-returns-in_err-goes_on-clause-reads
list-returns-in_err-goes_on-clause-reads t c =
    reads_err Value plain view noted _ _ _ c.from_residual.ensures.1 (λ y is x rest v ends.
    is ∙ list_goes_fault _ _ _ _ _ _ c.requires.1 c.loop-items.invariant.so_far (goes_later c.is_empty.ensures c.in_err-goes_on.ensures) x rest v ends)

pub list-returns-in_err-value-clause-reads : goal.list-returns-in_err-value-clause-reads
list-returns-in_err-value-clause-reads t c =
    reads_err Value plain view noted _ _ _ c.from_residual-in_err-value.ensures.1 (λ y is x rest v ends.
    is ∙ list_item_fault _ _ _ (record { cursor = c.goes_on.new.self; flaws = c.loop-items.self.flaws }) _ _ c.requires.1 c.loop-items.invariant.so_far (goes_at c.if-branch.true (goes_later c.is_empty.ensures c.in_ok-goes_on.ensures)) c.in_err-value.ensures.reads x rest v ends)

pub list-loop-items-preserved : goal.list-loop-items-preserved
list-loop-items-preserved t c = record {
  so_far = list_next _ _ c.in_ok-value.field-0 _ _ _ _ c.in_ok-push.ensures.ok refl c.loop-items.invariant.so_far (goes_at c.if-branch.true (goes_later c.is_empty.ensures c.in_ok-goes_on.ensures)) c.in_ok-value.ensures.reads;
  kept = c.in_ok-value.ensures.kept ∙ c.loop-items.invariant.kept;
}

pub list-returns-clause-reads : goal.list-returns-clause-reads
list-returns-clause-reads t c = list_done c.loop-items.items _ _ _ c.requires.0 c.requires.1 refl c.loop-items.invariant.so_far (goes_at c.if-branch.false (goes_later c.is_empty.ensures c.in_ok-goes_on.ensures))

pub object-loop-members-init : goal.object-loop-members-init
object-loop-members-init t c = rw c.new-members.ensures (object_begun _ _ _ c.requires.0 c.requires.1 c.advance.ensures refl)

pub object-returns-in_err-goes_on-clause-reads : goal.object-returns-in_err-goes_on-clause-reads
object-returns-in_err-goes_on-clause-reads t c =
    reads_err Value plain view noted _ _ _ c.from_residual.ensures.1 (λ y is x rest v ends.
    is ∙ object_goes_fault _ _ _ _ _ _ _ c.requires.1 c.loop-members.invariant.so_far (goes_later c.is_empty.ensures c.in_err-goes_on.ensures) x rest v ends)

pub object-returns-in_err-member-clause-reads : goal.object-returns-in_err-member-clause-reads
object-returns-in_err-member-clause-reads t c =
    reads_err Value plain view noted _ _ _ c.from_residual-in_err-member.ensures.1 (λ y is x rest v ends.
    is ∙ object_member_fault _ _ _ _ (record { cursor = c.goes_on.new.self; flaws = c.loop-members.self.flaws }) _ _ c.requires.1 c.loop-members.invariant.so_far (goes_at c.if-branch.true (goes_later c.is_empty.ensures c.in_ok-goes_on.ensures)) c.in_err-member.ensures.reads x rest v ends)

pub object-loop-members-preserved : goal.object-loop-members-preserved
object-loop-members-preserved t c =
    object_more _ _ _ _ _ _ _ c.in_ok-member.field-0 _ _ _ _ c.in_ok-push-2.ensures.ok c.in_ok-push.ensures.items c.in_ok-member.ensures.kept c.len.ensures refl c.loop-members.invariant
    (goes_at c.if-branch.true (goes_later c.is_empty.ensures c.in_ok-goes_on.ensures)) c.in_ok-member.ensures.reads

pub object-returns-clause-reads : goal.object-returns-clause-reads
object-returns-clause-reads t c =
    let noted_last = c.in_ok-note_repeated.ensures in
    let so = c.loop-members.invariant in
    let base = c.len-base.result in
    let size : vec_len c.args.lefts.now ≡ length c.args.lefts.now.items = search rules in
    let parts = stack_parts c.args.lefts.now.items c.loop-members.lefts.items so.own base so.on (c.len-base.ensures ∙ size) in
    let among : List Member → List ℕ → Option ℕ = λ ms lefts. earlier c.loop-members.self.flaws.repeated (earliest (repeated_among [] (map (λ m. (member_view m).0) ms) lefts)) in
    let lefts = c.deref.result.now in
    let own = take_rest lefts base ∙ ap (drop base) c.deref.ensures.value ∙ parts.1 in
    object_done c.loop-members.members so.own c.args.self.now c.loop-members.self c.note_repeated.new.self c.requires.0 c.requires.1
    (noted_last.repeated ∙ ap (λ ms. among ms (take (length lefts - base) (drop base lefts))) c.as_slice.ensures ∙ ap (among c.loop-members.members) own) noted_last.out_of_range so.so_far
    (subst (λ z. StepsToNext (has_items c.loop-members.members) 125 c.loop-members.self.cursor (Ok false) z) (sym noted_last.cursor) (goes_at c.if-branch.false (goes_later c.is_empty.ensures c.in_ok-goes_on.ensures)))

pub member-returns-in_err-name-clause-reads : goal.member-returns-in_err-name-clause-reads
member-returns-in_err-name-clause-reads t c = reads_err Pair plain_entry member_view noted_entry _ _ _ c.from_residual.ensures.1 (λ y is m rest p ends. is ∙ c.in_err-name.ensures.all m.name p.0 p.3)

pub member-returns-in_err-word-clause-reads : goal.member-returns-in_err-word-clause-reads
member-returns-in_err-word-clause-reads t c =
    reads_err Pair plain_entry member_view noted_entry _ _ _ c.from_residual-in_err-word.ensures.1 (λ y is m rest p ends.
    is ∙ c.in_err-word.ensures.all p.1 (colon_at m _ _ _ _ rest c.in_ok-name.ensures.all c.skip_spaces.ensures p).1)

pub member-value-requires : goal.member-value-requires
member-value-requires t c =
    let l = member_shorter c.args.self.now.cursor _ _ _ _ c.in_ok-name.ensures.shorter c.skip_spaces.ensures c.in_ok-word.ensures.found c.skip_spaces-2.ensures in
    (omega (arith, l, c.decreases), tt)

pub member-returns-in_err-value-clause-reads : goal.member-returns-in_err-value-clause-reads
member-returns-in_err-value-clause-reads t c =
    reads_err Pair plain_entry member_view noted_entry _ _ _ c.from_residual-in_err-value.ensures.1 (λ y is m rest p ends.
    let v = value_at m _ _ _ _ _ _ rest c.in_ok-name.ensures.all c.skip_spaces.ensures c.in_ok-word.ensures.found c.skip_spaces-2.ensures p in
    is ∙ c.in_err-value.ensures.reads m.value rest v.1 ends)

pub member-returns-clause-reads : goal.member-returns-clause-reads
member-returns-clause-reads t c =
    member_done c.in_ok-name.name _ _ _ c.in_ok-value.value _ _ _ _ (search (rules, the_lemmas)) c.in_ok-name.ensures.found c.in_ok-name.ensures.all c.in_ok-name.ensures.shorter c.skip_spaces.ensures
    c.in_ok-word.ensures.found c.skip_spaces-2.ensures refl c.in_ok-value.ensures.reads
