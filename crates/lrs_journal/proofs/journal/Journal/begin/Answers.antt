use Rattle.std.proofs.Common.{◌∙◌, ℕ, List, Option, arith, refl, subst, sym}
use Rattle.std.specs.Prelude.{IfErr}
use Rattle.std.proofs.lemmas.Result.{IfOk-weaker, IfErr-weaker}
use Rattle.lrs_journal.specs.Journal.{TellsAlike}
use Rattle.lrs_journal.specs.Store.{HasNoHeader}
use Rattle.lrs_journal.specs.Create.{IsCreateRefused}
use Rattle.lrs_journal.specs.declared.create.CreateRefused.{CreateRefused}
use Rattle.lrs_journal.proofs.Creating.{open_blank, no_store_none}
use Rattle.lrs_journal.proofs.Told.{alike_same}
use Rattle.lrs_journal.proofs.Untouched.{made_then, untouched_none}
use Rattle.lrs_journal.proofs.journal.Journal.begin.Goals as goal

pub start-requires-clause-blank : goal.start-requires-clause-blank
start-requires-clause-blank g c b told_b = open_blank b (c.in-Ok.ensures.free refl b (sym c.inspect.ensures.untouched.0 ∙ told_b))

pub start-requires-clause-size : goal.start-requires-clause-size
start-requires-clause-size g c b told_b = c.in-Ok.ensures.size b (sym c.inspect.ensures.untouched.0 ∙ told_b)

pub returns-in-Err-clause-any_moment_err : goal.returns-in-Err-clause-any_moment_err
returns-in-Err-clause-any_moment_err g c synced x told_x none =
    untouched_none g.D.Disk.told g.D.Disk.image g.D.Disk.time g.D.Disk.image_since g.met.D.Disk.counts_now g.met.D.Disk.only_now HasNoHeader no_store_none c.args.disk c.inspect.new.disk x c.inspect.ensures.untouched synced told_x none

pub returns-in-Err-clause-tells_err : goal.returns-in-Err-clause-tells_err
returns-in-Err-clause-tells_err g c = alike_same (g.D.Disk.told c.args.disk) (g.D.Disk.told c.inspect.new.disk) c.inspect.ensures.untouched.0

pub returns-in-Ok-clause-any_moment : goal.returns-in-Ok-clause-any_moment
returns-in-Ok-clause-any_moment g c =
    IfOk-weaker c.start.result _ _ (λ builder run synced x told_x none.
    made_then g.D.Disk.told g.D.Disk.image g.D.Disk.time g.D.Disk.image_since g.met.D.Disk.counts_now g.met.D.Disk.only_now HasNoHeader no_store_none c.args.disk c.inspect.new.disk builder.disk x c.inspect.ensures.untouched synced told_x none run) c.start.ensures.any_moment

pub returns-in-Ok-clause-any_moment_err : goal.returns-in-Ok-clause-any_moment_err
returns-in-Ok-clause-any_moment_err g c =
    IfErr-weaker c.start.result _ _ (λ e run synced x told_x none.
    made_then g.D.Disk.told g.D.Disk.image g.D.Disk.time g.D.Disk.image_since g.met.D.Disk.counts_now g.met.D.Disk.only_now HasNoHeader no_store_none c.args.disk c.inspect.new.disk e.1 x c.inspect.ensures.untouched synced told_x none run) c.start.ensures.any_moment_err

pub returns-in-Ok-clause-tells : goal.returns-in-Ok-clause-tells
returns-in-Ok-clause-tells g c =
    IfOk-weaker c.start.result _ _ (λ builder alike. subst (λ (o : Option (List ℕ)). TellsAlike o (g.D.Disk.told builder.disk)) c.inspect.ensures.untouched.0 alike) c.start.ensures.tells

pub returns-in-Ok-clause-tells_err : goal.returns-in-Ok-clause-tells_err
returns-in-Ok-clause-tells_err g c =
    IfErr-weaker c.start.result _ _ (λ e alike. subst (λ (o : Option (List ℕ)). TellsAlike o (g.D.Disk.told e.1)) c.inspect.ensures.untouched.0 alike) c.start.ensures.tells_err

pub returns-in-Ok-clause-later : goal.returns-in-Ok-clause-later
returns-in-Ok-clause-later g c =
    IfOk-weaker c.start.result _ _ (λ builder later. omega (arith, c.inspect.ensures.untouched.1.later, later)) c.start.ensures.later

pub returns-in-Ok-clause-later_err : goal.returns-in-Ok-clause-later_err
returns-in-Ok-clause-later_err g c =
    IfErr-weaker c.start.result _ _ (λ e later. omega (arith, c.inspect.ensures.untouched.1.later, later)) c.start.ensures.later_err

pub returns-in-Ok-clause-free : goal.returns-in-Ok-clause-free
returns-in-Ok-clause-free g c _ = c.in-Ok.ensures.free refl

pub returns-in-Ok-clause-refused : goal.returns-in-Ok-clause-refused
returns-in-Ok-clause-refused g c = IfErr-weaker c.start.result _ _ (λ e is x told_x. subst (λ (r : CreateRefused). IsCreateRefused x r) (sym is) tt) c.start.ensures.failed

pub returns-in-Ok-clause-full : goal.returns-in-Ok-clause-full
returns-in-Ok-clause-full g c = IfErr-weaker c.start.result _ _ (λ e is need most no. absurd (cc (sym is ∙ no))) c.start.ensures.failed

pub returns-in-Ok-clause-spared : goal.returns-in-Ok-clause-spared
returns-in-Ok-clause-spared g c = IfErr-weaker c.start.result _ _ (λ e is no. absurd (no is)) c.start.ensures.failed

pub returns-in-Ok-clause-store : goal.returns-in-Ok-clause-store
returns-in-Ok-clause-store g c = IfErr-weaker c.start.result _ _ (λ e is x told_x shut. absurd (shut (c.in-Ok.ensures.free refl x told_x))) c.start.ensures.failed

pub returns-in-Ok-clause-kept : goal.returns-in-Ok-clause-kept
returns-in-Ok-clause-kept g c = IfOk-weaker c.start.result _ _ (λ builder same. same ∙ c.in-Ok.ensures.cause.kept (λ e. subst (λ r. IfErr r (λ _. ⊥)) e tt)) c.start.ensures.kept

pub returns-in-Ok-clause-cause : goal.returns-in-Ok-clause-cause
returns-in-Ok-clause-cause g c = rw (c.in-Ok.ensures.cause.kept (λ e. subst (λ r. IfErr r (λ _. ⊥)) e tt)) at c.start.ensures.cause
