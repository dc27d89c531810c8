-- What acts tell of the disk's count of faults and of its moment, one after the other.
use Rattle.std.proofs.Common.{arith, ◌≡◌, ◌≢◌, ◌≤◌, ℕ, List, [], ◌∷◌, true, false, Result, Ok, Err, ap, ◌∙◌}
use Rattle.lrs_machine.specs.Acts.{HasDiskCause, Receipt, plain_receipt}
use Rattle.lrs_machine.specs.Desk.{Tide}
use Rattle.lrs_machine.specs.Line.{Record}
use Rattle.lrs_names.specs.declared.draw.Draw.{Draw}
use Rattle.lrs_record.specs.declared.entry.Caller.{Caller}
use Rattle.lrs_command.specs.declared.command.Command.{Command}
use Rattle.lrs_replies.specs.Replies.{Says}
use Rattle.lrs_replies.specs.declared.answered.Answered.{Answered}
use Rattle.lrs_replies.specs.declared.reply.Reply.{Reply}
use Rattle.lrs_replies.specs.declared.reply.Trouble.{Trouble}
use Rattle.lrs_replies.specs.declared.reply.Trouble.TheVariants.{Memory, Disk}
use Rattle.lrs_hall.specs.Acts.{ActsIn, Reach, tide_behind}
use Rattle.lrs_hall.specs.Serving.{AreWithin, IsNotBelow}
use Rattle.lrs_hall.proofs.Talking.{Carries}

-- ---- one act

kept_count : (before now : ℕ) (said : Result Answered Trouble) (reply : Reply) → Says said reply → HasDiskCause before now said → reply.status ≢ 503 → now ≡ before
kept_count before now (Ok said) reply says cause well = cause
kept_count before now (Err Memory) reply says cause well = cause
kept_count before now (Err Disk) reply says cause well = absurd (well says.0)

pub later_count : (before now : ℕ) (said : Result Answered Trouble) → HasDiskCause before now said → before ≤ now
later_count before now (Ok said) cause = let e : now ≡ before = cause in omega arith
later_count before now (Err Memory) cause = let e : now ≡ before = cause in omega arith
later_count before now (Err Disk) cause = cause.0

pub not_acted : (status : ℕ) (receipt : Receipt) → receipt ≡ plain_receipt status → receipt.acted ≡ true → ⊥
not_acted status receipt is acted =
    let other : receipt.acted ≡ false = ap (λ (r : Receipt). r.acted) is in
    let no : ⊥ = cc (acted, other) in
    no

-- ---- wider bounds

pub within_more : (a b x y : Tide) (receipts : List Receipt) → IsNotBelow x a → IsNotBelow b y → AreWithin a b receipts → AreWithin x y receipts
within_more a b x y [] low high all = tt
within_more a b x y (receipt ∷ receipts) low high all = (
  λ acted.
      let one = all.0 acted in
      let from = low.0 in
      let start = low.1 in
      let to = high.0 in
      let end = high.1 in
      let was = one.was in
      let now = one.is in
      let began = one.began in
      let ended = one.ended in
      record {
        was = omega (arith, from, was);
        rise = one.rise;
        is = omega (arith, now, to);
        told = one.told;
        began = omega (arith, start, began);
        ended = omega (arith, ended, end);
      },
  within_more a b x y receipts low high all.1,
)

-- ---- all acts of a worker

module _ (limit : ℕ) (line : List Record) where
  -- they lie between what was known before them and what is known behind them
  abbrev pub TidesIn : List Receipt → Reach → Reach → Type 0
  TidesIn receipts old new = IsNotBelow old.tide new.tide × AreWithin old.tide new.tide receipts

  module _ (caller : Caller) (command : Command) (draw : Draw) (reply : Reply) (receipt : Receipt) (old mid : Reach)
      (on : ActsIn limit line caller command draw reply receipt old mid) where
    at : mid.tide ≡ tide_behind receipt
    at = ap (λ (r : Reach). r.tide) on.reach

    pub is_left : mid.tide.faults ≡ receipt.is
    is_left = ap (λ (m : Tide). m.faults) at

    pub disk_left : mid.tide.moment ≡ receipt.disk
    disk_left = ap (λ (m : Tide). m.moment) at

    pub rose : receipt.was ≤ receipt.is
    rose = later_count receipt.was receipt.is on.said on.acts.cause

    pub tide_later : IsNotBelow old.tide mid.tide
    tide_later =
        let was = on.since.was in
        let ended = on.since.ended in
        let up = rose in
        let count = is_left in
        let moment = disk_left in
        (omega (arith, was, up, count), omega (arith, ended, moment))

    tides_more : (receipts : List Receipt) (new : Reach) → TidesIn receipts mid new → TidesIn (receipt ∷ receipts) old new
    tides_more receipts new more =
        let was = on.since.was in
        let began = on.since.ended in
        let count = is_left in
        let moment = disk_left in
        let low = tide_later.0 in
        let start = tide_later.1 in
        let high = more.0.0 in
        let end = more.0.1 in
        let same : new.tide.faults ≤ new.tide.faults = omega arith in
        let still : new.tide.moment ≤ new.tide.moment = omega arith in (
          (omega (arith, low, high), omega (arith, start, end)),
          (
            λ acted. record {
              was = was;
              rise = rose;
              is = omega (arith, count, high);
              told = λ well. kept_count receipt.was receipt.is on.said reply on.says on.acts.cause (λ e. well (on.status ∙ e));
              began = began;
              ended = omega (arith, moment, end);
            },
            within_more mid.tide new.tide old.tide new.tide receipts tide_later (same, still) more.1,
          ),
        )

  pub tides_in : Carries (ActsIn limit line) TidesIn
  tides_in = record {
    none = λ x. ((omega arith, omega arith), tt);
    plain = λ status receipt receipts old new none more. (
      more.0,
      (λ acted. absurd (not_acted status receipt none acted), more.1),
    );
    act = λ caller command draw reply receipt receipts old mid new on more. tides_more caller command draw reply receipt old mid on receipts new more;
  }
