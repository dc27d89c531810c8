use Rattle.std.proofs.Common.{◌≡◌, ◌∙◌, ℕ, take, drop, refl, sym, subst, arith}
use Rattle.lrs_journal.proofs.Untouched.{untouched_still}
use Rattle.lrs_journal.proofs.replay.load.Goals as goal

pub returns-in_err-size_to-clause-untouched : goal.returns-in_err-size_to-clause-untouched
returns-in_err-size_to-clause-untouched g c =
    untouched_still g.D.Disk.told g.D.Disk.image g.D.Disk.time g.D.Disk.image_since g.met.D.Disk.counts_now g.met.D.Disk.only_now c.args.disk.now

pub returns-then-all-clause-whole : goal.returns-then-all-clause-whole
returns-then-all-clause-whole g c x told_x =
    (refl, subst (λ (k : ℕ). c.fill.new.into.items ≡ take k (drop c.args.offset x)) c.in_ok-size_to.ensures (c.in_ok-all.ensures.all c.if-all.true x told_x))

pub returns-then-all-clause-length : goal.returns-then-all-clause-length
returns-then-all-clause-length g c n is =
    let same : c.args.size ≡ n = cc is in
    (sym same, c.fill.ensures.length ∙ c.in_ok-size_to.ensures ∙ same)

pub returns-clause-whole : goal.returns-clause-whole
returns-clause-whole g c x told_x =
    absurd (omega (arith, c.in_ok-all.ensures.short c.if-all.false x told_x, c.requires.there x told_x, c.in_ok-size_to.ensures))
