use Rattle.std.proofs.Common.{◌≡◌, ◌∙◌, ◌-◌, List, ℕ, ◌∷◌, ◌++◌, length, take, drop, min, get_or, ap, sym, arith, length-drop}
use Rattle.std.specs.Int.{w32, w64, to_be_bytes}
use Rattle.lrs_journal.proofs.Doubt.{head_some}
use Rattle.lrs_journal.proofs.Frames.{at_some, head_bytes_are}
use Rattle.lrs_journal.proofs.Untouched.{untouched_read}
use Rattle.lrs_journal.proofs.replay.look.Goals as goal

pub returns-in_err-there-clause-untouched : goal.returns-in_err-there-clause-untouched
returns-in_err-there-clause-untouched g c =
    untouched_read g.D.Disk.told g.D.Disk.image g.D.Disk.time g.D.Disk.image_since g.met.D.Disk.counts_now g.met.D.Disk.only_now c.args.disk.now c.read_at.new.self
    c.read_at.ensures.still c.read_at.ensures.time c.read_at.ensures.crash

pub returns-clause-untouched : goal.returns-clause-untouched
returns-clause-untouched g c =
    untouched_read g.D.Disk.told g.D.Disk.image g.D.Disk.time g.D.Disk.image_since g.met.D.Disk.counts_now g.met.D.Disk.only_now c.args.disk.now c.read_at.new.self
    c.read_at.ensures.still c.read_at.ensures.time c.read_at.ensures.crash

pub returns-clause-found : goal.returns-clause-found
returns-clause-found g c x told_x =
    let told = g.D.Disk.told in
    let offset = c.args.offset in
    let head : List ℕ = c.read_at.new.into in
    let n = c.in_ok-there.there in
    let read : head ≡ get_or head 0 0 ∷ to_be_bytes w32 c.word_of-size.result ++ to_be_bytes w64 c.number_of-number.result =
    head_bytes_are head c.word_of-size.result c.number_of-number.result c.read_at.auto.into c.word_of-size.ensures c.number_of-number.ensures in
    let there = at_some (λ b. n ≡ min 13 (length b - offset)) (told c.args.disk.now) x told_x c.in_ok-there.ensures.number in
    let same = at_some (λ b. take n head ≡ take n (drop offset b)) (told c.args.disk.now) x told_x c.in_ok-there.ensures.bytes in
    let behind = length-drop offset x in
    let all : c.saturating_sub.result ≡ length x - offset = omega (arith, c.saturating_sub.ensures, c.requires x told_x) in
    let left : c.left_of-left.result ≡ c.saturating_sub.result = c.left_of-left.ensures.same (there ∙ ap (λ (k : ℕ). min 13 k) (sym all)) in
    let many : n ≡ min 13 c.left_of-left.result = there ∙ ap (λ (k : ℕ). min 13 k) (sym (left ∙ all)) in
    c.ahead_of.ensures.found (drop offset x) (left ∙ all ∙ sym behind) (ap (λ (k : ℕ). take k (get_or head 0 0 ∷ to_be_bytes w32 c.word_of-size.result ++ to_be_bytes w64 c.number_of-number.result)) (sym many)
    ∙ ap (λ (l : List ℕ). take n l) (sym read) ∙ same ∙ ap (λ (k : ℕ). take k (drop offset x)) many)

pub returns-clause-fits : goal.returns-clause-fits
returns-clause-fits g c size is =
    let fits = c.ahead_of.ensures.fits size is in
    (fits.0, omega (arith, fits.1, c.left_of-left.ensures.most, c.saturating_sub.ensures, head_some c.args.format))
