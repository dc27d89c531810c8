use Rattle.std.proofs.Common.{◌≡◌, List, [], ◌∷◌, ◌++◌, map, sym, ap, ◌∙◌, subst}
use Rattle.std.proofs.lemmas.List.{nil_from_length}
use Rattle.std.specs.Vec.Iter.{into_iter_items}
use Rattle.lrs_history.specs.Made.{left_behind, made_under}
use Rattle.lrs_ids.specs.Ids.{Supply}
use Rattle.lrs_ids.specs.IdSupply.{GiveSame, left_of}
use Rattle.lrs_parts.specs.Parts.{state_of}
use Rattle.lrs_history.specs.LrsStateState.{used_in}
use Rattle.xapi_statement.specs.declared.statement.Statement.{Statement}
use Rattle.lrs_made.proofs.Supplied.{behind_more, made_all, made_more, value_of}
use Rattle.lrs_made.proofs.making.make_under.Goals as goal

pub loop-statement-init : goal.loop-statement-init
loop-statement-init c =
    let first : Supply = left_of (used_in (state_of c.args.parts.now)) c.args.supply.now in
    let whole = c.into_iter-statement-iterator.ensures.into_iter_gives.0 in
    record {
      made = ap (λ (xs : List Statement). c.args.made.now.items ++ made_under first c.args.moment (map value_of xs)) whole;
      left = record { same = λ k. ap (λ (xs : List Statement). left_behind first xs k) whole };
    }

pub loop-statement-preserved : goal.loop-statement-preserved
loop-statement-preserved c =
    let used = used_in (state_of c.args.parts.now) in
    let at = c.loop-statement in
    let x = c.in-Some.statement in
    let rest = into_iter_items c.next.new.self in
    let steps : into_iter_items at.statement-iterator ≡ x ∷ rest = c.in-Some.ensures.steps.0 in
    record {
      made = made_more (left_of used at.supply) (left_of used c.make_one.new.supply) c.args.moment x (into_iter_items at.statement-iterator) rest at.made.items c.make_one.new.made.items _ steps
          c.in_ok-make_one.ensures.made c.in_ok-make_one.ensures.left at.invariant.made;
      left = behind_more (left_of used at.supply) (left_of used c.make_one.new.supply) (left_of used c.args.supply.now) x (into_iter_items at.statement-iterator) rest c.args.said.items steps
          c.in_ok-make_one.ensures.left at.invariant.left;
    }

pub returns-clause-made : goal.returns-clause-made
returns-clause-made c =
    let used = used_in (state_of c.args.parts.now) in
    let at = c.loop-statement in
    let it = at.statement-iterator in
    let none : into_iter_items it ≡ [] = nil_from_length (into_iter_items it) (sym it.rest.ok.0 ∙ c.in-None.ensures.steps.0) in
    made_all (left_of used at.supply) c.args.moment (into_iter_items it) at.made.items _ none at.invariant.made

pub returns-clause-left : goal.returns-clause-left
returns-clause-left c =
    let used = used_in (state_of c.args.parts.now) in
    let at = c.loop-statement in
    let it = at.statement-iterator in
    let none : into_iter_items it ≡ [] = nil_from_length (into_iter_items it) (sym it.rest.ok.0 ∙ c.in-None.ensures.steps.0) in
    subst (λ (xs : List Statement). GiveSame (left_behind (left_of used at.supply) xs) (left_behind (left_of used c.args.supply.now) c.args.said.items)) none at.invariant.left
