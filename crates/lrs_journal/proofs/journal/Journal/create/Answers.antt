use Rattle.std.proofs.Common.{◌∙◌, ℕ, List, [], ◌∷◌, Option, option_map, inl, ap, arith, refl, subst, sym}
use Rattle.std.specs.Prelude.{IfErr}
use Rattle.std.proofs.lemmas.Result.{IfOk-weaker, IfErr-weaker}
use Rattle.lrs_journal.specs.Create.{IsCreateRefused, IsMade, IsStore}
use Rattle.lrs_journal.specs.Journal.{TellsAlike}
use Rattle.lrs_journal.specs.declared.create.CreateRefused.{CreateRefused}
use Rattle.lrs_journal.proofs.Creating.{no_store_none, open_blank}
use Rattle.lrs_journal.proofs.Told.{alike_same}
use Rattle.lrs_journal.proofs.Untouched.{made_then, untouched_none}
use Rattle.lrs_journal.proofs.journal.Journal.create.Goals as goal

-- where there was no store, none is made yet
unmade : (limit : ℕ) (first f : List ℕ) → (IsStore f → ⊥) → IsMade limit first f
unmade limit first f none = inl (no_store_none f none)

pub found-requires-clause-blank : goal.found-requires-clause-blank
found-requires-clause-blank g c b told_b = open_blank b (c.in-Ok.ensures.free refl b (sym c.ready.ensures.untouched.0 ∙ told_b))

pub found-requires-clause-size : goal.found-requires-clause-size
found-requires-clause-size g c b told_b = c.in-Ok.ensures.size b (sym c.ready.ensures.untouched.0 ∙ told_b)

pub returns-in-Err-clause-any_moment_err : goal.returns-in-Err-clause-any_moment_err
returns-in-Err-clause-any_moment_err g c synced x told_x none =
    untouched_none g.D.Disk.told g.D.Disk.image g.D.Disk.time g.D.Disk.image_since g.met.D.Disk.counts_now g.met.D.Disk.only_now (IsMade c.args.limit c.args.first.now) (unmade c.args.limit c.args.first.now) c.args.disk c.ready.new.disk x c.ready.ensures.untouched synced told_x none

pub returns-in-Err-clause-tells : goal.returns-in-Err-clause-tells
returns-in-Err-clause-tells g c = alike_same (g.D.Disk.told c.args.disk) (g.D.Disk.told c.ready.new.disk) c.ready.ensures.untouched.0

pub returns-in-Ok-clause-any_moment : goal.returns-in-Ok-clause-any_moment
returns-in-Ok-clause-any_moment g c =
    IfOk-weaker c.found.result _ _ (λ journal run synced x told_x none.
    made_then g.D.Disk.told g.D.Disk.image g.D.Disk.time g.D.Disk.image_since g.met.D.Disk.counts_now g.met.D.Disk.only_now (IsMade c.args.limit c.args.first.now) (unmade c.args.limit c.args.first.now) c.args.disk c.ready.new.disk journal.disk x c.ready.ensures.untouched synced told_x none run)
    c.found.ensures.any_moment

pub returns-in-Ok-clause-any_moment_err : goal.returns-in-Ok-clause-any_moment_err
returns-in-Ok-clause-any_moment_err g c =
    IfErr-weaker c.found.result _ _ (λ e run synced x told_x none.
    made_then g.D.Disk.told g.D.Disk.image g.D.Disk.time g.D.Disk.image_since g.met.D.Disk.counts_now g.met.D.Disk.only_now (IsMade c.args.limit c.args.first.now) (unmade c.args.limit c.args.first.now) c.args.disk c.ready.new.disk e.1 x c.ready.ensures.untouched synced told_x none run)
    c.found.ensures.any_moment_err

pub returns-in-Ok-clause-made : goal.returns-in-Ok-clause-made
returns-in-Ok-clause-made g c =
    IfOk-weaker c.found.result _ _ (λ journal is. is ∙ ap (λ (o : Option (List ℕ)). option_map (λ _. c.args.first.now ∷ []) o) c.ready.ensures.untouched.0) c.found.ensures.made

pub returns-in-Ok-clause-free : goal.returns-in-Ok-clause-free
returns-in-Ok-clause-free g c _ = (c.in-Ok.ensures.room refl, c.in-Ok.ensures.free refl)

pub returns-in-Ok-clause-refused : goal.returns-in-Ok-clause-refused
returns-in-Ok-clause-refused g c = IfErr-weaker c.found.result _ _ (λ e is x told_x. subst (λ (r : CreateRefused). IsCreateRefused x r) (sym is) tt) c.found.ensures.failed

pub returns-in-Ok-clause-full : goal.returns-in-Ok-clause-full
returns-in-Ok-clause-full g c = IfErr-weaker c.found.result _ _ (λ e is need most no. absurd (cc (sym is ∙ no))) c.found.ensures.failed

pub returns-in-Ok-clause-spared : goal.returns-in-Ok-clause-spared
returns-in-Ok-clause-spared g c = IfErr-weaker c.found.result _ _ (λ e is no. absurd (no is)) c.found.ensures.failed

pub returns-in-Ok-clause-store : goal.returns-in-Ok-clause-store
returns-in-Ok-clause-store g c = IfErr-weaker c.found.result _ _ (λ e is x told_x shut. absurd (shut (c.in-Ok.ensures.free refl x told_x))) c.found.ensures.failed

pub returns-in-Ok-clause-tells : goal.returns-in-Ok-clause-tells
returns-in-Ok-clause-tells g c =
    IfErr-weaker c.found.result _ _ (λ e alike. subst (λ (o : Option (List ℕ)). TellsAlike o (g.D.Disk.told e.1)) c.ready.ensures.untouched.0 alike) c.found.ensures.tells

pub returns-in-Ok-clause-later : goal.returns-in-Ok-clause-later
returns-in-Ok-clause-later g c = IfOk-weaker c.found.result _ _ (λ journal later. omega (arith, c.ready.ensures.untouched.1.later, later)) c.found.ensures.later

pub returns-in-Ok-clause-later_err : goal.returns-in-Ok-clause-later_err
returns-in-Ok-clause-later_err g c = IfErr-weaker c.found.result _ _ (λ e later. omega (arith, c.ready.ensures.untouched.1.later, later)) c.found.ensures.later_err

pub returns-in-Ok-clause-kept : goal.returns-in-Ok-clause-kept
returns-in-Ok-clause-kept g c = IfOk-weaker c.found.result _ _ (λ journal same. same ∙ c.in-Ok.ensures.cause.kept (λ e. subst (λ r. IfErr r (λ _. ⊥)) e tt)) c.found.ensures.kept

pub returns-in-Ok-clause-cause : goal.returns-in-Ok-clause-cause
returns-in-Ok-clause-cause g c = rw (c.in-Ok.ensures.cause.kept (λ e. subst (λ r. IfErr r (λ _. ⊥)) e tt)) at c.found.ensures.cause
