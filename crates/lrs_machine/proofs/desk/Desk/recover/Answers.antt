use Rattle.std.proofs.Common.{◌≡◌, length, map, sym, subst, ◌∙◌, ap, inr, false}
use Rattle.std.specs.Option.{ForSome}
use Rattle.lrs_disk.specs.Disk.{LeavesOnly}
use Rattle.lrs_fold.specs.LrsHistoryHistory.{IsLegal}
use Rattle.lrs_journal.specs.Store.{Stands}
use Rattle.lrs_record.specs.Entries.{written_entry}
use Rattle.lrs_machine.specs.Desk.{IsDeskRefused, IsSameStore, IsStoreOf, OpensOnly}
use Rattle.lrs_machine.specs.Line.{entries, in_doubt, opened_line}
use Rattle.lrs_machine.proofs.Lines.{entries_opened}
use Rattle.lrs_machine.proofs.OpenLemmas.{if_both, if_err, if_ok, open_refused, opens_finish, opens_then, opens_weaker}
use Rattle.lrs_machine.proofs.Spares.{spares}
use Rattle.lrs_machine.proofs.desk.Desk.recover.Goals as goal

pub returns-in-Err-clause-refused : goal.returns-in-Err-clause-refused
returns-in-Err-clause-refused g c = λ bytes there.
    subst (λ e. IsDeskRefused bytes e) (sym c.opening_refusal.ensures) (open_refused bytes c.in-Err.unread (λ is. c.in-Err.ensures.not_a_store is bytes there) (λ is. c.in-Err.ensures.old_format is bytes there))

pub returns-in-Err-clause-legal : goal.returns-in-Err-clause-legal
returns-in-Err-clause-legal g c = λ bytes there.
    spares bytes c.opening_refusal.result (subst (λ e. IsDeskRefused bytes e) (sym c.opening_refusal.ensures) (open_refused bytes c.in-Err.unread (λ is. c.in-Err.ensures.not_a_store is bytes there) (λ is. c.in-Err.ensures.old_format is bytes there)))

pub returns-in-Err-replay_all-clause-legal : goal.returns-in-Err-replay_all-clause-legal
returns-in-Err-replay_all-clause-legal g c = λ bytes there. spares bytes c.in-Err-replay_all.refused (c.in-Err-replay_all.ensures.refused bytes (c.in-Ok.ensures.still ∙ there))

pub returns-in-Ok-replay_all-clause-opening : goal.returns-in-Ok-replay_all-clause-opening
returns-in-Ok-replay_all-clause-opening g c =
    let h = c.replay_all.new.opening.items in
    let r = c.in-Ok-replay_all.ensures in
    if_ok c.finish.result
    (λ desk. (desk.line ≡ opened_line desk.opened_at h) × ((desk.limit ≡ c.replay_all.new.replay.limit) × (in_doubt desk.line ≡ false) × (desk.opened ≡ length h))) _
    (if_both c.finish.result (λ desk. desk.line ≡ opened_line desk.opened_at h) (λ desk. (desk.limit ≡ c.replay_all.new.replay.limit) × (in_doubt desk.line ≡ false) × (desk.opened ≡ length h)) c.finish.ensures.line c.finish.ensures.fields)
    (λ desk k.
    let legal : IsLegal desk.limit h = subst (λ l. IsLegal l h) (sym k.1.0) (r.some, r.replayed.legal) in
    (h, k.0, k.1.2, legal, λ bytes there. (subst (λ l. Stands bytes l (map written_entry h)) (sym k.1.0) (r.read bytes (c.replay_all.ensures.still ∙ c.in-Ok.ensures.still ∙ there)).1, legal)))

pub returns-in-Ok-replay_all-clause-stops : goal.returns-in-Ok-replay_all-clause-stops
returns-in-Ok-replay_all-clause-stops g c =
    let h = c.replay_all.new.opening.items in
    let r = c.in-Ok-replay_all.ensures in
    let told = g.D.Disk.told in
    let mid = c.replay_all.new.replay in
    let first = opens_then told g.D.Disk.image g.D.Disk.time g.D.Disk.image_since c.args.disk c.in-Ok.replay.disk mid.disk c.in-Ok.ensures.any_moment c.in-Ok.ensures.still c.replay_all.ensures.any_moment in
    if_ok c.finish.result
    (λ desk. ((desk.line ≡ opened_line desk.opened_at h) × ((desk.limit ≡ mid.limit) × (in_doubt desk.line ≡ false) × (desk.opened ≡ length h)))
    × ForSome (told mid.disk) (λ _. LeavesOnly g.D.Disk.time g.D.Disk.image_since mid.disk desk.disk (λ image. Stands image mid.limit (map written_entry h)))) _
    (if_both c.finish.result _ _ (if_both c.finish.result _ _ c.finish.ensures.line c.finish.ensures.fields) c.finish.ensures.any_moment)
    (λ desk k.
    subst (λ l. OpensOnly told g.D.Disk.image g.D.Disk.time g.D.Disk.image_since c.args.disk desk.disk (λ bytes after. IsStoreOf after l (entries desk.line))) (sym k.0.1.0)
    (subst (λ e. OpensOnly told g.D.Disk.image g.D.Disk.time g.D.Disk.image_since c.args.disk desk.disk (λ bytes after. IsStoreOf after mid.limit e)) (sym (ap entries k.0.0 ∙ entries_opened desk.opened_at h))
    (opens_finish told g.D.Disk.image g.D.Disk.time g.D.Disk.image_since c.args.disk mid.disk desk.disk mid.limit h first (c.replay_all.ensures.still ∙ c.in-Ok.ensures.still) (λ bytes there. (r.read bytes there).1) (r.some, r.replayed.legal) k.1)))

pub returns-in-Ok-replay_all-clause-stops_err : goal.returns-in-Ok-replay_all-clause-stops_err
returns-in-Ok-replay_all-clause-stops_err g c =
    let h = c.replay_all.new.opening.items in
    let r = c.in-Ok-replay_all.ensures in
    let told = g.D.Disk.told in
    let mid = c.replay_all.new.replay in
    let first = opens_then told g.D.Disk.image g.D.Disk.time g.D.Disk.image_since c.args.disk c.in-Ok.replay.disk mid.disk c.in-Ok.ensures.any_moment c.in-Ok.ensures.still c.replay_all.ensures.any_moment in
    if_err c.finish.result (λ e. ForSome (told mid.disk) (λ _. LeavesOnly g.D.Disk.time g.D.Disk.image_since mid.disk e.1 (λ image. Stands image mid.limit (map written_entry h)))) _ c.finish.ensures.any_moment_err
    (λ e k.
    opens_weaker told g.D.Disk.image g.D.Disk.time g.D.Disk.image_since c.args.disk e.1 (λ bytes after. IsStoreOf after mid.limit h) IsSameStore
    (opens_finish told g.D.Disk.image g.D.Disk.time g.D.Disk.image_since c.args.disk mid.disk e.1 mid.limit h first (c.replay_all.ensures.still ∙ c.in-Ok.ensures.still) (λ bytes there. (r.read bytes there).1) (r.some, r.replayed.legal) k)
    (λ bytes there after held. inr (mid.limit, h, ((r.read bytes (c.replay_all.ensures.still ∙ c.in-Ok.ensures.still ∙ there)).1, (r.some, r.replayed.legal)), held)))
