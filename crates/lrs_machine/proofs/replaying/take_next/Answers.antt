use Rattle.std.proofs.Common.{◌≡◌, map, sym, subst, true, ◌∙◌, ap, Err, rules}
use Rattle.std.specs.Prelude.{◌==◌}
use Rattle.lrs_journal.specs.Store.{IsDamagedIn}
use Rattle.lrs_record.specs.Entries.{written_entry}
use Rattle.lrs_machine.specs.Desk.{IsDeskRefused}
use Rattle.lrs_machine.specs.Fold.{state_of}
use Rattle.lrs_machine.specs.Replays.{may_follow, TakesEntry}
use Rattle.lrs_machine.proofs.ReplayLemmas.{taken_more, taken_unread, taken_refused}
use Rattle.lrs_machine.proofs.replaying.take_next.Goals as goal

pub returns-in-Err-clause-refused : goal.returns-in-Err-clause-refused
returns-in-Err-clause-refused g c = λ bytes there.
    subst (λ e. IsDeskRefused bytes e) (sym c.refusal_of.ensures)
    (taken_unread bytes c.args.replay.now (state_of c.args.fold.now) c.args.opening.now.items c.in-Err.unread c.requires.replayed (c.requires.read bytes there)
    (λ j is. let d = c.in-Err.ensures.damaged j (ap (λ e. Err e) is) in
    (d.0, subst (λ f. IsDamagedIn f bytes c.args.replay.now.limit (map written_entry c.args.opening.now.items)) c.requires.replayed.format (d.1 bytes there (map written_entry c.args.opening.now.items) (c.requires.read bytes there)))))

pub returns-in-Ok-take_entry-clause-taken : goal.returns-in-Ok-take_entry-clause-taken
returns-in-Ok-take_entry-clause-taken g c =
    let more : c.in-Ok.more ≡ true = search rules in
    let t = c.in-Ok-take_entry.ensures in
    taken_more g.D.Disk.told c.args.replay.now c.next.new.self (state_of c.args.fold.now) (state_of c.take_entry.new.fold) c.args.opening.now.items c.take_entry.new.opening.items c.args.k c.next.new.into.items t.0
    c.requires.long c.next.ensures.format c.next.ensures.limit c.next.ensures.still c.requires.replayed c.requires.read (c.in-Ok.ensures.moved more) (c.in-Ok.ensures.frame more) t.1 (t.2 ∙ c.deref.ensures.value)
    (subst (λ l. may_follow (c.args.k == 0) l c.next.new.self.offset (state_of c.args.fold.now) t.0 ≡ true) c.limit.ensures.same
    (subst (λ p. may_follow (c.args.k == 0) c.limit.result p (state_of c.args.fold.now) t.0 ≡ true) c.offset.ensures t.3)) t.4 t.5

pub returns-in-Err-take_entry-clause-refused : goal.returns-in-Err-take_entry-clause-refused
returns-in-Err-take_entry-clause-refused g c = λ bytes there.
    let more : c.in-Ok.more ≡ true = search rules in
    let read = c.requires.read bytes there in
    taken_refused bytes c.args.replay.now c.next.new.self (state_of c.args.fold.now) (state_of c.take_entry.new.fold) c.args.opening.now.items c.take_entry.new.opening.items c.args.k c.limit.result c.offset.result c.next.new.into.items c.in-Err-take_entry.refused
    c.requires.long c.next.ensures.format c.next.ensures.limit c.requires.replayed read (c.in-Ok.ensures.moved more) (c.in-Ok.ensures.frame more bytes there (map written_entry c.args.opening.now.items) read) c.limit.ensures.same c.offset.ensures
    (subst (λ f. TakesEntry f c.args.k c.limit.result c.offset.result (state_of c.args.fold.now) (state_of c.take_entry.new.fold) c.args.opening.now.items c.take_entry.new.opening.items (Err c.in-Err-take_entry.refused)) c.deref.ensures.value c.in-Err-take_entry.ensures)
