use Rattle.std.proofs.Common.{◌≡◌, ◌≢◌, ◌+◌, ℕ, List, Some, IfOk, take, drop, refl, sym, subst, ◌∙◌, arith}
use Rattle.lrs_journal.specs.Replay.{IsAhead}
use Rattle.lrs_journal.specs.declared.replay.Ahead.TheVariants as ahead
use Rattle.lrs_journal.proofs.Passing.{fetched_frame, fetched_within}
use Rattle.lrs_journal.proofs.Untouched.{untouched_then}
use Rattle.lrs_journal.proofs.replay.fetch.Goals as goal

no_frame_at_end : (size : ℕ) → ahead.End ≢ ahead.Frame size
no_frame_at_end size is = cc is

no_torn_frame : (size : ℕ) → ahead.Torn ≢ ahead.Frame size
no_torn_frame size is = cc is

pub load-requires : goal.load-requires
load-requires g c = record {
  there = λ b told_b.
      let fits = c.in_ok-look.ensures.fits c.in-Frame.size c.in-Frame.is in
      let total = c.requires b (sym c.look.ensures.untouched.0 ∙ told_b) in omega (arith, fits.1, total, c.frame_head.ensures);
}

pub returns-in-End-clause-found : goal.returns-in-End-clause-found
returns-in-End-clause-found g c x told_x = (subst (IsAhead c.args.format c.args.k (drop c.args.offset x)) c.in-End.is (c.in_ok-look.ensures.found x told_x), λ size is. absurd (no_frame_at_end size is))

pub returns-in-Torn-clause-found : goal.returns-in-Torn-clause-found
returns-in-Torn-clause-found g c x told_x = (subst (IsAhead c.args.format c.args.k (drop c.args.offset x)) c.in-Torn.is (c.in_ok-look.ensures.found x told_x), λ size is. absurd (no_torn_frame size is))

pub returns-in-Frame-clause-found : goal.returns-in-Frame-clause-found
returns-in-Frame-clause-found g c =
    fetched_frame c.args.format c.args.k c.load.result (g.D.Disk.told c.args.disk.now) (g.D.Disk.told c.look.new.disk) c.args.offset c.in-Frame.size c.load.new.into.items c.look.ensures.untouched.0
    (λ x told_x. subst (IsAhead c.args.format c.args.k (drop c.args.offset x)) c.in-Frame.is (c.in_ok-look.ensures.found x told_x)) (subst (λ (n : ℕ). IfOk c.load.result (λ h. (x : List ℕ) → g.D.Disk.told c.look.new.disk ≡ Some x → (h ≡ ahead.Frame c.in-Frame.size) × (c.load.new.into.items ≡ take c.in-Frame.size (drop (c.args.offset + n) x)))) c.frame_head.ensures c.load.ensures.whole)

pub returns-in-Frame-clause-fits : goal.returns-in-Frame-clause-fits
returns-in-Frame-clause-fits g c =
    let fits = c.in_ok-look.ensures.fits c.in-Frame.size c.in-Frame.is in
    fetched_within c.args.format c.load.result c.args.offset c.args.total c.in-Frame.size c.load.new.into.items fits.0 fits.1 c.load.ensures.length

pub returns-in-Frame-clause-untouched : goal.returns-in-Frame-clause-untouched
returns-in-Frame-clause-untouched g c =
    untouched_then g.D.Disk.told g.D.Disk.image g.D.Disk.time g.D.Disk.image_since g.met.D.Disk.counts_now g.met.D.Disk.only_now c.args.disk.now c.look.new.disk c.load.new.disk
    c.look.ensures.untouched c.load.ensures.untouched

pub returns-in-Frame-clause-cause : goal.returns-in-Frame-clause-cause
returns-in-Frame-clause-cause g c = rw (c.in_ok-look.ensures.cause.kept refl) at c.load.ensures.cause
