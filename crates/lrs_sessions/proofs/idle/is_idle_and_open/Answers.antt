use Rattle.std.proofs.Common.{◌+◌, ◌*◌, ◌∙◌, ℕ, nat_le, sym, ap}
use Rattle.std.proofs.lemmas.Bool.{and_right}
use Rattle.lrs_made.specs.LrsHistoryEndings.{is_idle, is_open}
use Rattle.lrs_made.specs.LrsPartsParts.{state_of}
use Rattle.lrs_sessions.proofs.Quiet.{desk_late, idle_alone}
use Rattle.lrs_sessions.proofs.idle.is_idle_and_open.Goals as goal

pub returns-then-not-lies_back : goal.returns-then-not-lies_back
returns-then-not-lies_back c =
    sym (desk_late (state_of c.args.parts.now) c.args.seconds c.args.moment c.args.number
    (ap (λ (m : ℕ). nat_le (m + 1000 * c.args.seconds) c.args.moment) (sym c.desk_moment.ensures) ∙ (sym c.lies_back.ensures ∙ c.if-not-lies_back.true)))

pub returns-then-not-is_open : goal.returns-then-not-is_open
returns-then-not-is_open c =
    let st = state_of c.args.parts.now in
    sym (and_right (is_idle st c.args.seconds c.args.moment c.args.number) (is_open st c.args.number) (sym c.is_open.ensures ∙ c.if-not-is_open.true))

pub returns : goal.returns
returns c =
    let st = state_of c.args.parts.now in
    c.is_idle.ensures ∙ idle_alone (is_idle st c.args.seconds c.args.moment c.args.number) (is_open st c.args.number) (sym c.is_open.ensures ∙ c.if-not-is_open.false)
