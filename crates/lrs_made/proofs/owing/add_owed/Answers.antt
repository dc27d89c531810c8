use Rattle.std.proofs.Common.{◌≡◌, ◌++◌, ◌∙◌, Option, IfSome, OnOk, refl, ap, sym, subst, append-nil, option_copied, option_map}
use Rattle.lrs_history.specs.Made.{left_behind, owed_jsons, owed_made}
use Rattle.lrs_ids.specs.Ids.{Supply}
use Rattle.lrs_ids.specs.IdSupply.{GiveSame, left_of}
use Rattle.lrs_made.specs.Lent.{IsLentBy, seen_enrolled}
use Rattle.lrs_made.specs.declared.enrolments.LentEnrolled.{LentEnrolled}
use Rattle.lrs_parts.specs.Parts.{state_of}
use Rattle.lrs_history.specs.LrsStateState.{used_in}
use Rattle.lrs_made.proofs.Same.{behind_made}
use Rattle.lrs_made.proofs.owing.add_owed.Goals as goal

pub add_owed_in-requires : goal.add_owed_in-requires
add_owed_in-requires c =
    subst (λ (o : Option LentEnrolled). IfSome o (λ (e : LentEnrolled). IsLentBy (state_of c.args.parts.now) e)) (ap option_copied c.in-Some.is) c.requires

-- ---- what is made

pub returns-in-Some-clause-made : goal.returns-in-Some-clause-made
returns-in-Some-clause-made c =
    let st = state_of c.args.parts.now in
    let supply : Supply = left_of (used_in st) c.args.supply.now in
    let before = c.args.made.now.items in
    subst (λ (o : Option LentEnrolled). OnOk c.add_owed_in.result (c.add_owed_in.new.made.items
    ≡ before ++ owed_made st c.args.session.now supply c.args.moment before (option_map seen_enrolled o)))
    (ap option_copied (sym c.in-Some.is)) c.add_owed_in.ensures.made

pub returns-in-None-clause-made : goal.returns-in-None-clause-made
returns-in-None-clause-made c =
    let st = state_of c.args.parts.now in
    let supply : Supply = left_of (used_in st) c.args.supply.now in
    let before = c.args.made.now.items in
    sym (append-nil before)
    ∙ ap (λ (o : Option LentEnrolled). before ++ owed_made st c.args.session.now supply c.args.moment before (option_map seen_enrolled o)) (ap option_copied (sym c.in-None.is))

-- ---- what is left

pub returns-in-Some-clause-left : goal.returns-in-Some-clause-left
returns-in-Some-clause-left c =
    let st = state_of c.args.parts.now in
    let supply : Supply = left_of (used_in st) c.args.supply.now in
    let before = c.args.made.now.items in
    subst (λ (left : Supply). OnOk c.add_owed_in.result (GiveSame (left_of (used_in st) c.add_owed_in.new.supply) left))
    (sym (behind_made supply supply c.args.moment (owed_jsons st c.args.session.now before (seen_enrolled c.in-Some.enrolled.now)))
    ∙ ap (λ (o : Option LentEnrolled). left_behind supply (owed_made st c.args.session.now supply c.args.moment before (option_map seen_enrolled o))) (ap option_copied (sym c.in-Some.is)))
    c.add_owed_in.ensures.left

pub returns-in-None-clause-left : goal.returns-in-None-clause-left
returns-in-None-clause-left c =
    let st = state_of c.args.parts.now in
    let supply : Supply = left_of (used_in st) c.args.supply.now in
    let before = c.args.made.now.items in
    subst (λ (o : Option LentEnrolled). GiveSame supply (left_behind supply (owed_made st c.args.session.now supply c.args.moment before (option_map seen_enrolled o))))
    (ap option_copied (sym c.in-None.is)) (record { same = λ k. refl })
