use Rattle.std.proofs.Common.{◌≡◌, ◌∙◌, List, ℕ, [], ◌∷◌, inl, refl, subst, sym}
use Rattle.lrs_disk.specs.Disk.{LeavesOnly}
use Rattle.lrs_disk.proofs.Moments.{then_run, weaker_run}
use Rattle.lrs_journal.specs.Builder.{IsBuilding, IsBuilt}
use Rattle.lrs_journal.specs.Create.{IsMade}
use Rattle.lrs_journal.specs.Journal.{TellsAlike}
use Rattle.lrs_journal.specs.Store.{HasNoHeader}
use Rattle.lrs_journal.proofs.Kept.{same_map}
use Rattle.lrs_journal.proofs.Told.{alike_both}
use Rattle.lrs_journal.proofs.create.found.Goals as goal

pub returns-in-Err-clause-any_moment_err : goal.returns-in-Err-clause-any_moment_err
returns-in-Err-clause-any_moment_err g c synced =
    let T = g.D.Disk.time in
    let S = g.D.Disk.image_since in
    let I = g.D.Disk.image in
    let cn = g.met.D.Disk.counts_now in
    let on = g.met.D.Disk.only_now in
    let P = IsMade c.args.limit c.args.first.now in
    let d0 = c.args.disk in
    weaker_run T S I cn on d0 c.in-Err.refused.1 HasNoHeader P (c.in-Err.ensures.any_moment_err synced) (λ f none. inl none)

pub returns-in-Err-add-clause-any_moment_err : goal.returns-in-Err-add-clause-any_moment_err
returns-in-Err-add-clause-any_moment_err g c synced =
    let T = g.D.Disk.time in
    let S = g.D.Disk.image_since in
    let I = g.D.Disk.image in
    let cn = g.met.D.Disk.counts_now in
    let on = g.met.D.Disk.only_now in
    let P = IsMade c.args.limit c.args.first.now in
    let d0 = c.args.disk in
    let d1 = c.in-Ok.builder.disk in
    let begun = weaker_run T S I cn on d0 d1 HasNoHeader P (c.in-Ok.ensures.any_moment synced) (λ f none. inl none) in
    let d2 = c.add.new.self.disk in
    let added = then_run T S I cn on d0 d1 d2 P HasNoHeader begun c.add.ensures.any_moment (λ f none. inl none) in
    subst (λ d. LeavesOnly T S d0 d P) (sym c.into_disk.ensures.disk) added

pub returns-in-Err-open-clause-any_moment_err : goal.returns-in-Err-open-clause-any_moment_err
returns-in-Err-open-clause-any_moment_err g c synced =
    let T = g.D.Disk.time in
    let S = g.D.Disk.image_since in
    let I = g.D.Disk.image in
    let cn = g.met.D.Disk.counts_now in
    let on = g.met.D.Disk.only_now in
    let P = IsMade c.args.limit c.args.first.now in
    let d0 = c.args.disk in
    let d1 = c.in-Ok.builder.disk in
    let begun = weaker_run T S I cn on d0 d1 HasNoHeader P (c.in-Ok.ensures.any_moment synced) (λ f none. inl none) in
    let d2 = c.add.new.self.disk in
    let added = then_run T S I cn on d0 d1 d2 P HasNoHeader begun c.add.ensures.any_moment (λ f none. inl none) in
    let ps = c.args.first.now ∷ [] in
    let h : IsBuilding g.D.Disk.told c.add.new.self ps = c.in-Ok-add.ensures.added refl [] c.in-Ok.ensures.begun in
    let limit : c.add.new.self.limit ≡ c.args.limit = c.add.ensures.limit ∙ c.in-Ok.ensures.fields.1 in
    let last = c.in-Err-open.ensures.any_moment_err ps h in
    then_run T S I cn on d0 d2 _ P (IsBuilt c.add.new.self.limit ps) added last (λ f built. subst (λ (l : ℕ). IsBuilt l ps f) limit built)

pub returns-in-Ok-open-clause-any_moment : goal.returns-in-Ok-open-clause-any_moment
returns-in-Ok-open-clause-any_moment g c synced =
    let T = g.D.Disk.time in
    let S = g.D.Disk.image_since in
    let I = g.D.Disk.image in
    let cn = g.met.D.Disk.counts_now in
    let on = g.met.D.Disk.only_now in
    let P = IsMade c.args.limit c.args.first.now in
    let d0 = c.args.disk in
    let d1 = c.in-Ok.builder.disk in
    let begun = weaker_run T S I cn on d0 d1 HasNoHeader P (c.in-Ok.ensures.any_moment synced) (λ f none. inl none) in
    let d2 = c.add.new.self.disk in
    let added = then_run T S I cn on d0 d1 d2 P HasNoHeader begun c.add.ensures.any_moment (λ f none. inl none) in
    let ps = c.args.first.now ∷ [] in
    let h : IsBuilding g.D.Disk.told c.add.new.self ps = c.in-Ok-add.ensures.added refl [] c.in-Ok.ensures.begun in
    let limit : c.add.new.self.limit ≡ c.args.limit = c.add.ensures.limit ∙ c.in-Ok.ensures.fields.1 in
    let last = c.in-Ok-open.ensures.any_moment ps h in
    then_run T S I cn on d0 d2 _ P (IsBuilt c.add.new.self.limit ps) added last (λ f built. subst (λ (l : ℕ). IsBuilt l ps f) limit built)

pub returns-in-Err-add-clause-tells : goal.returns-in-Err-add-clause-tells
returns-in-Err-add-clause-tells g c =
    let told = g.D.Disk.told in
    let alike = alike_both (told c.args.disk) (told c.in-Ok.builder.disk) (told c.add.new.self.disk) c.in-Ok.ensures.tells c.add.ensures.tells in
    subst (λ d. TellsAlike (told c.args.disk) (told d)) (sym c.into_disk.ensures.disk) alike

pub returns-in-Err-open-clause-tells : goal.returns-in-Err-open-clause-tells
returns-in-Err-open-clause-tells g c =
    let told = g.D.Disk.told in
    let alike = alike_both (told c.args.disk) (told c.in-Ok.builder.disk) (told c.add.new.self.disk) c.in-Ok.ensures.tells c.add.ensures.tells in
    alike_both (told c.args.disk) (told c.add.new.self.disk) _ alike c.in-Err-open.ensures.tells_err

pub returns-in-Ok-open-clause-made : goal.returns-in-Ok-open-clause-made
returns-in-Ok-open-clause-made g c =
    let told = g.D.Disk.told in
    let alike = alike_both (told c.args.disk) (told c.in-Ok.builder.disk) (told c.add.new.self.disk) c.in-Ok.ensures.tells c.add.ensures.tells in
    let ps = c.args.first.now ∷ [] in
    let h : IsBuilding g.D.Disk.told c.add.new.self ps = c.in-Ok-add.ensures.added refl [] c.in-Ok.ensures.begun in
    c.in-Ok-open.ensures.opened ps h ∙ same_map (λ (_ : List ℕ). ps) (λ (_ : List ℕ). ps) (told c.args.disk) (told c.add.new.self.disk) alike (λ x y told_x told_y. refl)
